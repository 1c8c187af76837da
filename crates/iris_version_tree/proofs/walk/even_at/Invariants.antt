use Rattle.std.proofs.Common.{ℕ, ◌/◌, ◌^◌, ◌-◌}
use Rattle.iris_node.specs.Trees.{Shown}
use Rattle.iris_version_tree.specs.Versions.{Versioned}
use Rattle.iris_version_tree.specs.Reached.{Reached}
use Rattle.iris_version_tree.proofs.walk.even_at.Given as goal

-- the side is that of the part of this level over the place
abbrev pub invariant-loop-step : goal.invariant-loop-step
invariant-loop-step l = (old new : Shown) (v : ℕ → ℕ) → Versioned old new l.file v l.draft l.cache → Reached l.draft l.cache l.file v (16 - l.step) (l.place / 2 ^ (16 - l.step)) l.side
