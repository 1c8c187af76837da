use Rattle.std.proofs.Common.{◌≡◌, ◌<◌, ℕ, Some, slice_get}
use Rattle.iris_name.specs.declared.name.Name.{Name}
use Rattle.iris_pool.specs.Going.{CanLeave}
use Rattle.iris_pool.proofs.pool.Pool.idle_of.Given as goal

-- the first names stay
abbrev pub invariant-loop-name : goal.invariant-loop-name
invariant-loop-name l = (k : ℕ) (n : Name) → k < l.name-index → slice_get l.names k ≡ Some n → CanLeave l.self n → ⊥
