-- What the end of a run of the plain file system gives, clause by clause.
use Rattle.std.proofs.Common.{◌≡◌, ◌⊎◌, inl, inr, ℕ, ◌≤◌, ◌<◌, List, length, Option, Some, Result, Ok, Err, refl, ap, subst, arith}
use Rattle.std.specs.Prelude.{◌↔◌}
use Rattle.iris_name.specs.declared.request.Request.{Request}
use Rattle.iris_script.specs.Script.{AllAsk, IsFirst, IsNoRequest, NamesFarClient, script_lines}
use Rattle.iris_script.proofs.ScriptLaws.{AllAsk-requests, AllAsk-clients, IsNoRequest-bad, NamesFarClient-bad, IsFirst-same}
use Rattle.iris.specs.declared.plain.Halt.{Halt}
use Rattle.iris.specs.declared.plain.Halt.TheVariants.{Stopped, FarClient}
use Rattle.iris.specs.declared.top.Stop.TheVariants.{BadWords, BadLine, Unread, Unwritten, TooLong, NoMemory}
use Rattle.iris.specs.Outside.{IsFault}
use Rattle.iris.specs.Plain.{ArePlain, AreNotPlain, IsPlainEnd, FirstLine, WasAsked, ended_as}
use Rattle.iris.specs.Reading.{HasMoreThan, IsAtMostLeft}

abbrev Bytes : Type 0
Bytes = Option (List ℕ)

abbrev Ended : Type 0
Ended = Result (Unit {0}) Halt

-- words that hold a key aren't others
pub words_end : (words : List (List ℕ)) (left left_now : Bytes) (a b : ℕ) (written written_now : Bytes) (u v : ℕ) (r : Ended)
    → IsPlainEnd words left left_now a b written written_now u v r → (((ended_as r).0 ≡ 2) × ((ended_as r).1 ≡ 0)) ↔ AreNotPlain words
words_end words left left_now a b written written_now u v (Ok x) e = (λ h. absurd (omega (arith, h.0)), λ none. absurd (none e.1.master e.1.spoken))
words_end words left left_now a b written written_now u v (Err (Stopped Unwritten)) e = (λ h. absurd (omega (arith, h.0)), λ none. absurd (none e.0.1.master e.0.1.spoken))
words_end words left left_now a b written written_now u v (Err (Stopped BadWords)) e = (λ h. e.0, λ none. (refl, refl))
words_end words left left_now a b written written_now u v (Err (Stopped (BadLine n))) e = (λ h. absurd (e.2 h.1), λ none. absurd (none e.0.0.0 e.0.0.1))
words_end words left left_now a b written written_now u v (Err (FarClient n)) e = (λ h. absurd (omega (arith, h.0)), λ none. absurd (none e.0.0.0 e.0.0.1))
words_end words left left_now a b written written_now u v (Err (Stopped Unread)) e = (λ h. absurd (omega (arith, h.0)), λ none. absurd (none e.0.0 e.0.1))
words_end words left left_now a b written written_now u v (Err (Stopped TooLong)) e = (λ h. absurd (omega (arith, h.0)), λ none. absurd (none e.0.0 e.0.1))
words_end words left left_now a b written written_now u v (Err (Stopped NoMemory)) e = (λ h. absurd (omega (arith, h.0)), λ none. absurd (none e.0.0 e.0.1))

asked_told : (left left_now : Bytes) (bytes : List ℕ) (calls : List (ℕ × Request)) → left ≡ Some bytes → WasAsked left left_now calls → AllAsk (script_lines bytes) calls
asked_told left left_now bytes calls is asked = (subst (λ l. WasAsked l left_now calls) is asked).1

first_told : (Bad : List ℕ → Type 0) (left : Bytes) (bytes : List ℕ) (n : ℕ) → left ≡ Some bytes → FirstLine Bad left n → IsFirst Bad (script_lines bytes) n
first_told Bad left bytes n is first = subst (λ l. FirstLine Bad l n) is first

over_limit : (left : Bytes) (bytes : List ℕ) → left ≡ Some bytes → length bytes ≤ 16777216 → HasMoreThan left 16777216 → ⊥
over_limit left bytes is short more = let m : 16777216 < length bytes = subst (λ l. HasMoreThan l 16777216) is more in omega (arith, m, short)

under_limit : (left : Bytes) (bytes : List ℕ) → left ≡ Some bytes → 16777216 < length bytes → IsAtMostLeft left 16777216 → ⊥
under_limit left bytes is long within = let w : length bytes ≤ 16777216 = subst (λ l. IsAtMostLeft l 16777216) is within in omega (arith, w, long)

-- over an outside without faults a script of calls is served
pub served_end : (words : List (List ℕ)) (left left_now : Bytes) (a b : ℕ) (written written_now : Bytes) (u v : ℕ) (r : Ended)
    → IsPlainEnd words left left_now a b written written_now u v r
    → (master bytes : List ℕ) (calls : List (ℕ × Request)) → ArePlain words master → left ≡ Some bytes → length bytes ≤ 16777216 → AllAsk (script_lines bytes) calls
    → (IsFault a b → ⊥) → (IsFault u v → ⊥) → ((ended_as r).0 ≡ 0) ⊎ ((ended_as r).0 ≡ 8)
served_end words left left_now a b written written_now u v (Ok x) e master bytes calls spoken is short asks read wrote = inl refl
served_end words left left_now a b written written_now u v (Err (Stopped Unwritten)) e master bytes calls spoken is short asks read wrote = absurd (wrote e.1)
served_end words left left_now a b written written_now u v (Err (Stopped BadWords)) e master bytes calls spoken is short asks read wrote = absurd (e.0 master spoken)
served_end words left left_now a b written written_now u v (Err (Stopped (BadLine n))) e master bytes calls spoken is short asks read wrote =
    absurd (AllAsk-requests (script_lines bytes) calls n asks (first_told IsNoRequest left bytes n is e.1))
served_end words left left_now a b written written_now u v (Err (FarClient n)) e master bytes calls spoken is short asks read wrote =
    absurd (AllAsk-clients (script_lines bytes) calls n asks (first_told NamesFarClient left bytes n is e.1))
served_end words left left_now a b written written_now u v (Err (Stopped Unread)) e master bytes calls spoken is short asks read wrote = absurd (read e.1)
served_end words left left_now a b written written_now u v (Err (Stopped TooLong)) e master bytes calls spoken is short asks read wrote = absurd (over_limit left bytes is short e.1)
served_end words left left_now a b written written_now u v (Err (Stopped NoMemory)) e master bytes calls spoken is short asks read wrote = inr refl

-- a first line that is no request is told
pub line_end : (words : List (List ℕ)) (left left_now : Bytes) (a b : ℕ) (written written_now : Bytes) (u v : ℕ) (r : Ended)
    → IsPlainEnd words left left_now a b written written_now u v r
    → (master bytes : List ℕ) (n : ℕ) → ArePlain words master → left ≡ Some bytes → length bytes ≤ 16777216 → IsFirst IsNoRequest (script_lines bytes) n
    → (IsFault a b → ⊥) → (ended_as r ≡ (2, n)) ⊎ ((ended_as r).0 ≡ 8)
line_end words left left_now a b written written_now u v (Ok x) e master bytes n spoken is short first read =
    absurd (AllAsk-requests (script_lines bytes) e.1.calls n (asked_told left left_now bytes e.1.calls is e.1.asked) first)
line_end words left left_now a b written written_now u v (Err (Stopped Unwritten)) e master bytes n spoken is short first read =
    absurd (AllAsk-requests (script_lines bytes) e.0.1.calls n (asked_told left left_now bytes e.0.1.calls is e.0.1.asked) first)
line_end words left left_now a b written written_now u v (Err (Stopped BadWords)) e master bytes n spoken is short first read = absurd (e.0 master spoken)
line_end words left left_now a b written written_now u v (Err (Stopped (BadLine m))) e master bytes n spoken is short first read =
    let one = IsFirst-same IsNoRequest IsNoRequest (script_lines bytes) m n IsNoRequest-bad IsNoRequest-bad (first_told IsNoRequest left bytes m is e.1) first in inl (ap (λ k. (2, k)) one.0)
line_end words left left_now a b written written_now u v (Err (FarClient m)) e master bytes n spoken is short first read =
    let one = IsFirst-same NamesFarClient IsNoRequest (script_lines bytes) m n NamesFarClient-bad IsNoRequest-bad (first_told NamesFarClient left bytes m is e.1) first in absurd (one.3.1 one.2.0 one.2.1 one.2.2)
line_end words left left_now a b written written_now u v (Err (Stopped Unread)) e master bytes n spoken is short first read = absurd (read e.1)
line_end words left left_now a b written written_now u v (Err (Stopped TooLong)) e master bytes n spoken is short first read = absurd (over_limit left bytes is short e.1)
line_end words left left_now a b written written_now u v (Err (Stopped NoMemory)) e master bytes n spoken is short first read = inr refl

-- and so is a first line that names a client above 16
pub client_end : (words : List (List ℕ)) (left left_now : Bytes) (a b : ℕ) (written written_now : Bytes) (u v : ℕ) (r : Ended)
    → IsPlainEnd words left left_now a b written written_now u v r
    → (master bytes : List ℕ) (n : ℕ) → ArePlain words master → left ≡ Some bytes → length bytes ≤ 16777216 → IsFirst NamesFarClient (script_lines bytes) n
    → (IsFault a b → ⊥) → (ended_as r ≡ (7, n)) ⊎ ((ended_as r).0 ≡ 8)
client_end words left left_now a b written written_now u v (Ok x) e master bytes n spoken is short first read =
    absurd (AllAsk-clients (script_lines bytes) e.1.calls n (asked_told left left_now bytes e.1.calls is e.1.asked) first)
client_end words left left_now a b written written_now u v (Err (Stopped Unwritten)) e master bytes n spoken is short first read =
    absurd (AllAsk-clients (script_lines bytes) e.0.1.calls n (asked_told left left_now bytes e.0.1.calls is e.0.1.asked) first)
client_end words left left_now a b written written_now u v (Err (Stopped BadWords)) e master bytes n spoken is short first read = absurd (e.0 master spoken)
client_end words left left_now a b written written_now u v (Err (Stopped (BadLine m))) e master bytes n spoken is short first read =
    let one = IsFirst-same IsNoRequest NamesFarClient (script_lines bytes) m n IsNoRequest-bad NamesFarClient-bad (first_told IsNoRequest left bytes m is e.1) first in absurd (one.2.1 one.3.0 one.3.1 one.3.2)
client_end words left left_now a b written written_now u v (Err (FarClient m)) e master bytes n spoken is short first read =
    let one = IsFirst-same NamesFarClient NamesFarClient (script_lines bytes) m n NamesFarClient-bad NamesFarClient-bad (first_told NamesFarClient left bytes m is e.1) first in inl (ap (λ k. (7, k)) one.0)
client_end words left left_now a b written written_now u v (Err (Stopped Unread)) e master bytes n spoken is short first read = absurd (read e.1)
client_end words left left_now a b written written_now u v (Err (Stopped TooLong)) e master bytes n spoken is short first read = absurd (over_limit left bytes is short e.1)
client_end words left left_now a b written written_now u v (Err (Stopped NoMemory)) e master bytes n spoken is short first read = inr refl

-- a script that is too long is told
pub length_end : (words : List (List ℕ)) (left left_now : Bytes) (a b : ℕ) (written written_now : Bytes) (u v : ℕ) (r : Ended)
    → IsPlainEnd words left left_now a b written written_now u v r
    → (master bytes : List ℕ) → ArePlain words master → left ≡ Some bytes → 16777216 < length bytes
    → (IsFault a b → ⊥) → (ended_as r ≡ (7, 0)) ⊎ ((ended_as r).0 ≡ 8)
length_end words left left_now a b written written_now u v (Ok x) e master bytes spoken is long read = absurd (under_limit left bytes is long e.1.limit)
length_end words left left_now a b written written_now u v (Err (Stopped Unwritten)) e master bytes spoken is long read = absurd (under_limit left bytes is long e.0.1.limit)
length_end words left left_now a b written written_now u v (Err (Stopped BadWords)) e master bytes spoken is long read = absurd (e.0 master spoken)
length_end words left left_now a b written written_now u v (Err (Stopped (BadLine n))) e master bytes spoken is long read = absurd (under_limit left bytes is long e.0.1)
length_end words left left_now a b written written_now u v (Err (FarClient n)) e master bytes spoken is long read = absurd (under_limit left bytes is long e.0.1)
length_end words left left_now a b written written_now u v (Err (Stopped Unread)) e master bytes spoken is long read = absurd (read e.1)
length_end words left left_now a b written written_now u v (Err (Stopped TooLong)) e master bytes spoken is long read = inl refl
length_end words left left_now a b written written_now u v (Err (Stopped NoMemory)) e master bytes spoken is long read = inr refl
