-- How the ends of a run give what its caller sees.
use Rattle.std.proofs.Common.{◌≡◌, ◌⊎◌, inr, ℕ, ◌+◌, ◌≤◌, List, [], ◌∷◌, ◌++◌, length, Bool, true, false, ◌||◌, Option, Some, None, IfSome, refl, sym, ◌∙◌, ap, subst, append_assoc}
use Rattle.iris_name.specs.declared.note.Note.{Note}
use Rattle.iris_name.specs.declared.request.Request.{Request}
use Rattle.iris_name.specs.declared.request.Reply.{Reply}
use Rattle.iris_name.specs.History.{past_of}
use Rattle.iris_name.specs.Hmac.{block_key}
use Rattle.iris_name.specs.Told.{extended}
use Rattle.iris_script.specs.Cuts.{lines_of}
use Rattle.iris_script.specs.Printing.{reply_line}
use Rattle.iris_store.specs.declared.Transfer.{Transfer}
use Rattle.iris.specs.Lines.{AllSpell}
use Rattle.iris.specs.Notes.{is_refused, any_refused, printed_from, printed}
use Rattle.iris.specs.Reading.{IsAllOf, IsAtMostLeft}
use Rattle.iris.specs.Registers.{BadRegisters, LegalRegisters}
use Rattle.iris.specs.Run.{Ran}
use Rattle.iris.specs.Said.{Said, saying, saying_all, silent}
use Rattle.iris.specs.Session.{Serves, IsJudged, HasShape}
use Rattle.iris.specs.Shape.{IsShaped}
use Rattle.iris.specs.Top.{IsEmptyLog, WasRead}
use Rattle.iris.specs.Words.{AreWords}

-- words hold one key
pub one_key : (words : List (List ℕ)) (a b : List ℕ) → AreWords words a → AreWords words b → a ≡ b
one_key words a b f g = let same : f.0 ≡ g.0 = second (sym f.1 ∙ g.1) in let d = f.2 in let e = g.2 in cc where
  second : {x y z w : List ℕ} → x ∷ y ∷ [] ≡ z ∷ w ∷ [] → y ≡ w
  second h = cc

-- the text of what was said is the printing of the replies
said_text : (said : Said) (replies : List Reply) → (saying_all said replies).text ≡ said.text ++ printed_from 1 (said.count + 1) replies
said_text said [] = append_nil said.text where
  append_nil : (xs : List ℕ) → xs ≡ xs ++ []
  append_nil [] = refl
  append_nil (x ∷ xs) = ap (λ ys. x ∷ ys) (append_nil xs)
said_text said (reply ∷ replies) = said_text (saying said reply) replies ∙ append_assoc said.text (reply_line 1 (said.count + 1) reply) (printed_from 1 (said.count + 1 + 1) replies)

pub said_printed : (replies : List Reply) → (saying_all silent replies).text ≡ printed 1 replies
said_printed replies = said_text silent replies

or_assoc : (a b c : Bool) → ((a || b) || c) ≡ (a || (b || c))
or_assoc true b c = refl
or_assoc false b c = refl

or_false : (a : Bool) → (a || false) ≡ a
or_false true = refl
or_false false = refl

-- whether a refusal was said is whether a reply is one
said_refused : (said : Said) (replies : List Reply) → (saying_all said replies).refused ≡ (said.refused || any_refused replies)
said_refused said [] = sym (or_false said.refused)
said_refused said (reply ∷ replies) = said_refused (saying said reply) replies ∙ or_assoc said.refused (is_refused reply) (any_refused replies)

pub silent_refused : (replies : List Reply) → (saying_all silent replies).refused ≡ any_refused replies
silent_refused replies = said_refused silent replies

-- the notes of a session that began with none are those that it added
pub all_more : (old new : Option (List Note)) (more notes : List Note) → IsEmptyLog old → new ≡ extended old more → new ≡ Some notes → notes ≡ more
all_more None new more notes fresh e f = absurd (let g = sym f ∙ e in cc)
all_more (Some []) new more notes fresh e f = let g = sym f ∙ e in cc
all_more (Some (x ∷ xs)) new more notes fresh e f = absurd (cc)

-- what is told of the notes, from what is so of those that were added
pub if_told : (P : List Note → Type 0) (new : Option (List Note)) → ((notes : List Note) → new ≡ Some notes → P notes) → IfSome new P
if_told P None f = tt
if_told P (Some notes) f = f notes refl

-- a judgement of a session that is told
pub judged_told : (key : List ℕ) (new : Option (List Note)) (notes : List Note) → new ≡ Some notes → IsJudged key new → BadRegisters key (past_of (notes ∷ [])) ⊎ LegalRegisters key (past_of (notes ∷ []))
judged_told key new notes e j = subst (IsJudged key) e j

pub shaped_told : (key : List ℕ) (new : Option (List Note)) (notes : List Note) → new ≡ Some notes → HasShape key new → IsShaped key (past_of (notes ∷ []))
shaped_told key new notes e j = subst (HasShape key) e j

-- no notes are legal
pub untouched_judged : (key : List ℕ) (old new : Option (List Note)) (notes : List Note) → IsEmptyLog old → new ≡ old → new ≡ Some notes → BadRegisters key (past_of (notes ∷ [])) ⊎ LegalRegisters key (past_of (notes ∷ []))
untouched_judged key old new notes fresh e f = subst (λ ns. BadRegisters key (past_of (ns ∷ [])) ⊎ LegalRegisters key (past_of (ns ∷ []))) (sym (no_notes old new notes fresh e f)) (inr tt) where
  no_notes : (old new : Option (List Note)) (notes : List Note) → IsEmptyLog old → new ≡ old → new ≡ Some notes → notes ≡ []
  no_notes None new notes fresh e f = absurd (let g = sym f ∙ e in cc)
  no_notes (Some ns) new notes fresh e f = let g : Some notes ≡ Some ns = sym f ∙ e in let h : notes ≡ ns = cc in h ∙ fresh

-- a source of which so much was read has so much
pub within : (left left_now : Option (List ℕ)) (bytes : List ℕ) → IsAllOf left left_now bytes → length bytes ≤ 16777216 → IsAtMostLeft left 16777216
within None left_now bytes whole len = tt
within (Some l) left_now bytes whole len = subst (λ z. length z ≤ 16777216) whole.0 len

-- a run whose lines were all served
pub ran : (words : List (List ℕ)) (master key : List ℕ) (left left_now : Option (List ℕ)) (bytes shown : List ℕ) (requests : List Request) (traffic traffic_now : Option (List Transfer)) (failed failed_now : ℕ) (old new : Option (List Note)) (said : Said)
    → AreWords words master → key ≡ block_key master → IsAllOf left left_now bytes → length bytes ≤ 16777216 → shown ≡ bytes → AllSpell (lines_of shown) requests
    → Serves requests old new traffic traffic_now failed failed_now silent said → IsJudged key new → HasShape key new
    → Ran words left left_now traffic traffic_now failed failed_now old new said
ran words master key left left_now bytes shown requests traffic traffic_now failed failed_now old new said spoken k whole len same spell serves judged shaped = record {
  master = master;
  spoken = spoken;
  requests = requests;
  read = by_left left whole;
  limit = within left left_now bytes whole len;
  serves = serves;
  judged = subst (λ z. IsJudged z new) k judged;
  shaped = subst (λ z. HasShape z new) k shaped;
}
  where
    by_left : (left : Option (List ℕ)) → IsAllOf left left_now bytes → WasRead left left_now requests
    by_left None w = w
    by_left (Some l) w = (w.1, subst (λ z. AllSpell (lines_of z) requests) (same ∙ w.0) spell)
