-- What is kept for a caller was got by it since its last call, and was the record then.
use Rattle.std.specs.Prelude.{ℕ, ◌≡◌, ◌≢◌, ◌⊎◌, [], ◌∷◌, true, Some}
use Rattle.iris_name.specs.declared.name.Name.{Name}
use Rattle.iris_name.specs.declared.note.Answer.{Answer}
use Rattle.iris_name.specs.declared.note.Answer.TheVariants.{Given}
use Rattle.iris_name.specs.declared.note.Note.{Note}
use Rattle.iris_name.specs.declared.note.Note.TheVariants.{Call, Got, Put, Dropped}
use Rattle.iris_name.specs.History.{Past, begun}
use Rattle.iris_name.specs.Names.{same_name}
use Rattle.iris_history.specs.Kept.{Kept, shown_in}
use Rattle.iris_invariant.specs.Agrees.{View}

-- an answer is the record of what the name stood for in a history
pub record IsRecord (k : Kept) (n : Name) (at : Past) (answer : Answer) : Type 0 where
  pub u : k.Unfolded
  pub live : shown_in k at n ≡ Some u
  pub is : answer ≡ Given (k.spelled n u)

-- a note, its beginning, and whether an earlier note is evidence: what is evidence then
abbrev pub IsEvidence : Kept → ℕ → Name → Past → Note → Type 0 → Type 0
IsEvidence k who n at (Call w request reply) rest = (w ≢ who) × rest
IsEvidence k who n at (Got w since m answer) rest = ((w ≡ who) × (same_name n m ≡ true) × IsRecord k n at answer) ⊎ rest
IsEvidence k who n at (Put w since m bytes ok) rest = rest
IsEvidence k who n at (Dropped w since m ok) rest = rest

-- among the notes since the caller's last call there is a get of the name by it, answered by the record of where it began
abbrev pub WasGot : Kept → ℕ → Name → Past → Type 0
WasGot k who n [] = ⊥
WasGot k who n (x ∷ past) = IsEvidence k who n (begun past x) x.note (WasGot k who n past)

abbrev pub Evidence : Kept → Past → View → Type 0
Evidence k past v = (who : ℕ) (n : Name) → v.kept who n ≡ true → WasGot k who n past
