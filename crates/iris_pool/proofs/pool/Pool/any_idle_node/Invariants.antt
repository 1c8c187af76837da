use Rattle.std.proofs.Common.{◌≡◌, ◌<◌, ℕ, Some, slice_get}
use Rattle.iris_name.specs.declared.name.Name.{Name}
use Rattle.iris_cache.specs.declared.held.Held.{Held}
use Rattle.iris_pool.specs.Going.{CanLeave}
use Rattle.iris_pool.proofs.pool.Pool.any_idle_node.Given as goal

-- the first nodes stay
abbrev pub invariant-loop-i : goal.invariant-loop-i
invariant-loop-i l = (k : ℕ) (e : Name × Held) → k < l.i → slice_get l.self.nodes.nodes k ≡ Some e → CanLeave l.self e.0 → ⊥
