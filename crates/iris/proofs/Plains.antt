-- Runs of the plain file system.
use Rattle.std.proofs.Common.{◌≡◌, ℕ, ◌+◌, ◌≤◌, ◌<◌, List, [], ◌∷◌, ◌++◌, length, drop, get_or, Option, Some, None, Err, refl, sym, ◌∙◌, ap, subst, arith, append_assoc}
use Rattle.std.proofs.lemmas.List.{drop_more, drop_all}
use Rattle.iris_name.specs.declared.request.Request.{Request}
use Rattle.iris_name.specs.declared.request.Reply.{Reply}
use Rattle.iris_name.specs.Hmac.{order_key}
use Rattle.iris_script.specs.Script.{AllAsk, IsScriptFault, script_lines}
use Rattle.iris_script.specs.declared.script.ScriptError.{ScriptError}
use Rattle.iris_script.specs.declared.script.ScriptError.TheVariants as script
use Rattle.iris_rows.specs.Changes.{stepped}
use Rattle.iris_table.specs.Replies.{TableReplies}
use Rattle.iris_rows.specs.Rows.{Table, empty_table}
use Rattle.iris.specs.declared.reading.ReadError.{ReadError}
use Rattle.iris.specs.declared.reading.ReadError.TheVariants as read
use Rattle.iris.specs.Plain.{AreRight, ArePlain, PlainServed, WasAsked, IsPlainEnd, halt_of_read, halt_of_script}
use Rattle.iris.specs.Reading.{IsAllOf, IsAtMostLeft, MayEnd}

abbrev Call : Type 0
Call = ℕ × Request

abbrev Said : Type 0
Said = ℕ × Reply

-- what is left of the calls begins with this one
left : (calls : List Call) (i : ℕ) (call : Call) → call ≡ get_or calls i call → i < length calls → drop i calls ≡ call ∷ drop (i + 1) calls
left calls i call at inside = drop_more calls i call inside ∙ ap (λ z. z ∷ drop (i + 1) calls) (sym at)

-- one call more
pub served_more : (key : List ℕ) (t : Table) (calls : List Call) (i : ℕ) (call : Call) (done : List Said) (reply : Reply) → call ≡ get_or calls i call → i < length calls
    → ((rest : List Said) → AreRight key t (drop i calls) rest → AreRight key empty_table calls (done ++ rest))
    → TableReplies key t call.1 reply
    → (rest : List Said) → AreRight key (stepped t call.1) (drop (i + 1) calls) rest → AreRight key empty_table calls ((done ++ (call.0, reply) ∷ []) ++ rest)
served_more key t calls i call done reply at inside before right rest after =
    subst (AreRight key empty_table calls) (sym (append_assoc done ((call.0, reply) ∷ []) rest))
    (before ((call.0, reply) ∷ rest) (subst (λ z. AreRight key t z ((call.0, reply) ∷ rest)) (sym (left calls i call at inside)) (refl, right, after)))

append_nil : {A : Type 0} (xs : List A) → xs ++ [] ≡ xs
append_nil [] = refl
append_nil (x ∷ xs) = ap (λ ys. x ∷ ys) (append_nil xs)

-- all calls are served
pub served_all : (key : List ℕ) (t : Table) (calls : List Call) (i : ℕ) (done : List Said) → length calls ≤ i
    → ((rest : List Said) → AreRight key t (drop i calls) rest → AreRight key empty_table calls (done ++ rest))
    → AreRight key empty_table calls done
served_all key t calls i done over before =
    subst (AreRight key empty_table calls) (append_nil done) (before [] (subst (λ z. AreRight key t z []) (sym (drop_all i calls over)) refl))

-- a reading that ended by an error
pub read_end : (words : List (List ℕ)) (left left_now : Option (List ℕ)) (a b : ℕ) (written : Option (List ℕ)) (u v : ℕ) (master : List ℕ) (e : ReadError)
    → ArePlain words master → MayEnd left a b 16777216 e → IsPlainEnd words left left_now a b written written u v (Err (halt_of_read e))
read_end words left left_now a b written u v master read.Failed spoken may = ((master, spoken), may, refl)
read_end words left left_now a b written u v master read.TooLong spoken may = ((master, spoken), may, refl)
read_end words left left_now a b written u v master read.NoMemory spoken may = ((master, spoken), refl)

within : (left left_now : Option (List ℕ)) (bytes : List ℕ) → IsAllOf left left_now bytes → length bytes ≤ 16777216 → IsAtMostLeft left 16777216
within None left_now bytes all short = tt
within (Some told) left_now bytes all short = subst (λ z. length z ≤ 16777216) all.0 short

-- a script that isn't read
pub script_end : (words : List (List ℕ)) (left left_now : Option (List ℕ)) (a b : ℕ) (written : Option (List ℕ)) (u v : ℕ) (master bytes : List ℕ) (e : ScriptError)
    → ArePlain words master → IsAllOf left left_now bytes → length bytes ≤ 16777216 → IsScriptFault (script_lines bytes) e
    → IsPlainEnd words left left_now a b written written u v (Err (halt_of_script e))
script_end words None left_now a b written u v master bytes (script.NotRequest n) spoken all short bad =
    (((master, spoken), tt), tt, (λ z. let p = bad.place in omega (arith, z, p)), refl)
script_end words (Some told) left_now a b written u v master bytes (script.NotRequest n) spoken all short bad =
    (((master, spoken), within (Some told) left_now bytes all short), subst (λ z. IsScriptFault (script_lines z) (script.NotRequest n)) all.0 bad, (λ z. let p = bad.place in omega (arith, z, p)), refl)
script_end words None left_now a b written u v master bytes (script.Client n) spoken all short bad =
    (((master, spoken), tt), tt, (λ z. let p = bad.place in omega (arith, z, p)), refl)
script_end words (Some told) left_now a b written u v master bytes (script.Client n) spoken all short bad =
    (((master, spoken), within (Some told) left_now bytes all short), subst (λ z. IsScriptFault (script_lines z) (script.Client n)) all.0 bad, (λ z. let p = bad.place in omega (arith, z, p)), refl)
script_end words left left_now a b written u v master bytes script.NoMemory spoken all short bad = ((master, spoken), refl)

was_asked : (left left_now : Option (List ℕ)) (bytes : List ℕ) (calls : List Call) → IsAllOf left left_now bytes → AllAsk (script_lines bytes) calls → WasAsked left left_now calls
was_asked None left_now bytes calls all asks = all
was_asked (Some told) left_now bytes calls all asks = (all.1, subst (λ z. AllAsk (script_lines z) calls) all.0 asks)

-- all lines were served
pub served : (words : List (List ℕ)) (left left_now : Option (List ℕ)) (master order bytes : List ℕ) (calls : List Call) (replies : List Said)
    → ArePlain words master → IsAllOf left left_now bytes → length bytes ≤ 16777216 → AllAsk (script_lines bytes) calls
    → order ≡ order_key master → AreRight order empty_table calls replies → PlainServed words left left_now replies
served words left left_now master order bytes calls replies spoken all short asks ordered right = record {
  master = master;
  spoken = spoken;
  calls = calls;
  asked = was_asked left left_now bytes calls all asks;
  limit = within left left_now bytes all short;
  right = subst (λ k. AreRight k empty_table calls replies) ordered right;
}
