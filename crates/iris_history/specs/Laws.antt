-- The laws of histories, as statements.
use Rattle.std.specs.Prelude.{ℕ, ◌≡◌, List, ◌∷◌, drop, Bool}
use Rattle.iris_name.specs.declared.name.Name.{Name}
use Rattle.iris_name.specs.declared.note.Note.TheVariants.{Call}
use Rattle.iris_name.specs.declared.request.Cause.{Cause}
use Rattle.iris_name.specs.declared.request.PlainError.{PlainError}
use Rattle.iris_name.specs.declared.request.Reply.TheVariants.{Plain, Refused}
use Rattle.iris_name.specs.declared.request.Request.{Request}
use Rattle.iris_name.specs.History.{Past, Stamped, oldest, begun}
use Rattle.iris_history.specs.Answers.{Stored, last_of}
use Rattle.iris_history.specs.Breaks.{Breaks}
use Rattle.iris_history.specs.Kept.{Kept, Carries, after_note, shown_in}
use Rattle.iris_history.specs.Legal.{Rules, IsBad, IsLegal}
use Rattle.iris_history.specs.Status.{IsClean}

-- a bad history stays bad when it grows
abbrev pub BadStays : Kept → Rules → Type 0
BadStays k r = (past : Past) (x : Stamped) → IsBad k r past → IsBad k r (x ∷ past)

-- the beginnings of a legal history are legal
abbrev pub LegalBefore : Kept → Rules → Type 0
LegalBefore k r = (past : Past) (m : ℕ) → IsLegal k r past → IsLegal k r (drop m past)

-- a bad history has a note that breaks, with a legal history before it
abbrev pub BadOnLegal : Kept → Rules → Type 0
BadOnLegal k r = (past : Past) → IsBad k r past
    → (m : ℕ) × (x : Stamped) × (before : Past) × (drop m past ≡ x ∷ before) × Breaks k before (begun before x) x.note × IsLegal k r (x ∷ before)

-- a call that is refused, or answered by a plain error, leaves the table
abbrev pub RefusedLeaves : Kept → Type 0
RefusedLeaves k = (t : k.Table) (who : ℕ) (request : Request)
    → ((cause : Cause) → after_note k t (Call who request (Refused cause)) ≡ t) × ((error : PlainError) → after_note k t (Call who request (Plain error)) ≡ t)

-- what was put last of a name is the record of what the name stood for when that put began
abbrev pub LastPutIsTrue : Kept → Rules → Type 0
LastPutIsTrue k r = (n : Name) (past : Past) (start : ℕ) (bytes : List ℕ) (ok : Bool) → IsLegal k r past
    → last_of n past ≡ Stored start bytes ok → Carries k n (shown_in k (oldest start past) n) bytes

-- what was put last of a clean name is the record of what it stands for now
abbrev pub CleanIsStored : Kept → Rules → Type 0
CleanIsStored k r = (n : Name) (past : Past) → IsLegal k r past → IsClean k n past
    → (start : ℕ) × (bytes : List ℕ) × (ok : Bool) × (last_of n past ≡ Stored start bytes ok) × Carries k n (shown_in k past n) bytes
