-- What the session keeps of the registers, against its history.
use Rattle.std.specs.Prelude.{ℕ, ◌<◌, ◌≡◌, ◌≢◌, ◌⊎◌, List, [], ◌∷◌, length, Option, Some, None, drop, slice_index_or, slice_index}
use Rattle.iris_name.specs.declared.note.Note.{Note}
use Rattle.iris_name.specs.History.{Past, past_of}
use Rattle.iris_history.specs.Kept.{table_of}
use Rattle.iris.specs.Registers.{registers, Clean, LegalRegisters, BadRegisters}
use Rattle.iris.specs.Shape.{IsShaped}

-- The counter, the number of notes, the versions, and the blocks whose put failed, agree with the past.
pub record RegistersAgree (key : List ℕ) (counter noted : ℕ) (versions : List ℕ) (kept : List (Option (List ℕ))) (past : Past) : Type 0 where
  pub count : counter ≡ (table_of (registers key) past).counter
  pub notes : noted ≡ length past
  pub version : (p : ℕ) → p < 65536 → slice_index versions p ≡ (table_of (registers key) past).version p
  pub whole : (m p : ℕ) → length ((table_of (registers key) (drop m past)).block p) ≡ 4096
  pub held : (p : ℕ) (b : List ℕ) → slice_index_or kept p None ≡ Some b → (b ≡ (table_of (registers key) past).block p) × (Clean key past p → ⊥)
  pub clean : (p : ℕ) → p < 65536 → (table_of (registers key) past).version p ≢ 0 → slice_index_or kept p None ≡ None → Clean key past p
  pub judged : BadRegisters key past ⊎ LegalRegisters key past

-- what the session keeps agrees with its notes, where these are told, and they have the shape that they should
abbrev pub Keeps : List ℕ → ℕ → ℕ → List ℕ → List (Option (List ℕ)) → Option (List Note) → Type 0
Keeps key counter noted versions kept None = Unit {0}
Keeps key counter noted versions kept (Some notes) = RegistersAgree key counter noted versions kept (past_of (notes ∷ [])) × IsShaped key (past_of (notes ∷ []))
