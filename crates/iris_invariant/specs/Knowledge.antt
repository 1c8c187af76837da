-- What an agreeing core knows of its history: by its marks, by what is out, and by what is kept.
use Rattle.std.specs.Prelude.{ℕ, ◌≡◌, ◌⊎◌, Bool, true, false, Some, IsSome, IsNone}
use Rattle.iris_name.specs.declared.name.Name.{Name}
use Rattle.iris_name.specs.declared.note.Expect.{Expect}
use Rattle.iris_name.specs.History.{Past}
use Rattle.iris_history.specs.Crowding.{AtLeast, IsCrowded}
use Rattle.iris_history.specs.Kept.{Kept, is_block, shown_in}
use Rattle.iris_history.specs.Legal.{Rules}
use Rattle.iris_history.specs.Status.{IsClean, IsDirty, IsDoomed, IsUnsure}
use Rattle.iris_invariant.specs.Agrees.{Getting, Out, View, marked, IsTrueOf, is_challenge, Agrees}

-- What residency and mark tell of a name.
pub record MarkTells (k : Kept) (n : Name) (past : Past) (resident marked : Bool) : Type 0 where
  pub live : resident ≡ true → IsSome (shown_in k past n)
  pub clean : marked ≡ false → IsSome (shown_in k past n) → IsClean k n past
  pub not_dirty : marked ≡ false → IsDirty k n past → ⊥
  pub dirty : marked ≡ true → IsSome (shown_in k past n) → (resident ≡ true) × (IsDirty k n past ⊎ IsUnsure k n past)
  pub doomed : marked ≡ true → IsNone (shown_in k past n) → IsDoomed k n past

abbrev pub MarksTell : Kept → Rules → Type 0
MarksTell k r = (opened : ℕ) (past : Past) (v : View) → Agrees k r opened past v → (n : Name) → MarkTells k n past (v.cell n).resident (marked (v.cell n))

-- where no name is marked, none is dirty, and a sync may be answered
abbrev pub UnmarkedIsSynced : Kept → Rules → Type 0
UnmarkedIsSynced k r = (opened : ℕ) (past : Past) (v : View) → Agrees k r opened past v → ((n : Name) → marked (v.cell n) ≡ false) → (n : Name) → IsDirty k n past → ⊥

-- a block, or a node, that is marked
abbrev pub IsMarkedBlock : View → Name → Type 0
IsMarkedBlock v n = (is_block n ≡ true) × (marked (v.cell n) ≡ true)

abbrev pub IsMarkedNode : View → Name → Type 0
IsMarkedNode v n = (is_block n ≡ false) × (marked (v.cell n) ≡ true)

-- so many marked names crowd the history
abbrev pub MarksCrowd : Kept → Rules → Type 0
MarksCrowd k r = (opened : ℕ) (past : Past) (v : View) → Agrees k r opened past v → AtLeast 448 (IsMarkedBlock v) ⊎ AtLeast 2048 (IsMarkedNode v) → IsCrowded k past

-- Of a get that is out and no challenge's: its name is clean and absent, and its expectation is true.
pub record FetchTells (k : Kept) (n : Name) (past : Past) (resident : Bool) (expect : Expect) : Type 0 where
  pub clean : IsClean k n past
  pub absent : resident ≡ false
  pub expected : IsTrueOf k n expect (shown_in k past n)

abbrev pub FetchesTell : Kept → Rules → Type 0
FetchesTell k r = (opened : ℕ) (past : Past) (v : View) (n : Name) (o : Out) (expect : Expect) → Agrees k r opened past v → (v.cell n).out ≡ Some o → o.doing ≡ Getting expect → is_challenge o.request n ≡ false
    → FetchTells k n past (v.cell n).resident expect

-- a live name that is absent, as each that a plan lacks, isn't kept for anybody
abbrev pub NeedsAreNew : Kept → Rules → Type 0
NeedsAreNew k r = (opened : ℕ) (past : Past) (v : View) (who : ℕ) (n : Name) → Agrees k r opened past v → (v.cell n).resident ≡ false → IsSome (shown_in k past n) → v.kept who n ≡ false
