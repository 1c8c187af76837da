use Rattle.std.proofs.Common.{◌≡◌, ◌<◌, ℕ, Some, slice_get}
use Rattle.iris_desk.specs.declared.out.Out.{Out}
use Rattle.iris_pool.specs.Going.{IsParentOf}
use Rattle.iris_pool.proofs.going.is_parent_of_any.Given as goal

-- of the first names none is fetched of which the node holds a hash
abbrev pub invariant-loop-out : goal.invariant-loop-out
invariant-loop-out l = (k : ℕ) (o : Out) → k < l.out-index → slice_get l.outs k ≡ Some o → IsParentOf l.node o → ⊥
