-- The parent of a node that is being fetched is resident.
use Rattle.std.specs.Prelude.{◌≡◌, true, Some}
use Rattle.iris_name.specs.declared.name.Name.{Name}
use Rattle.iris_name.specs.declared.note.Expect.{Expect}
use Rattle.iris_name.specs.History.{Past}
use Rattle.iris_history.specs.Kept.{Kept, shown_in}
use Rattle.iris_invariant.specs.Agrees.{Getting, Out, View}

-- `Links u n` says that what stands for u leads to n. Each live name that leads to a name that is being fetched is resident.
abbrev pub ParentsResident : (k : Kept) → (k.Unfolded → Name → Type 0) → Past → View → Type 0
ParentsResident k Links past v = (n p : Name) (o : Out) (expect : Expect) (u : k.Unfolded) → (v.cell n).out ≡ Some o → o.doing ≡ Getting expect
    → shown_in k past p ≡ Some u → Links u n → (v.cell p).resident ≡ true

-- no child of the name is being fetched
abbrev pub NoChildIsFetched : (k : Kept) → (k.Unfolded → Name → Type 0) → Past → View → Name → Type 0
NoChildIsFetched k Links past v p = (n : Name) (o : Out) (expect : Expect) (u : k.Unfolded) → (v.cell n).out ≡ Some o → o.doing ≡ Getting expect → shown_in k past p ≡ Some u → Links u n → ⊥
