use Rattle.iris_node.specs.Trees.{Shown}
use Rattle.iris_node.specs.Unfolded.{Unfolded}
use Rattle.iris_dirtree.specs.Below.{RootIs}
use Rattle.iris_dirtree.proofs.BlockPlaces.{Sunk}
use Rattle.iris_dirtree.proofs.placing.block_below.Given as goal

-- the block lies under the link
abbrev pub invariant-loop-step : goal.invariant-loop-step
invariant-loop-step l = (old new : Shown) (u : Unfolded) → RootIs l.fn.root l.draft l.cache old new u → Sunk l.fn.root old new l.draft l.cache u l.at l.link l.place l._step
