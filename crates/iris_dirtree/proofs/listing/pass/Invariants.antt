use Rattle.std.proofs.Common.{List, suc}
use Rattle.iris_node.specs.Trees.{Shown}
use Rattle.iris_shape.specs.Treap.{Treap}
use Rattle.iris_treepaths.specs.Rows.{Row}
use Rattle.iris_dirtree.specs.Piles.{Tables, Piling}
use Rattle.iris_dirtree.proofs.listing.pass.Given as goal

-- the rows left to list stand under the link, or were passed
abbrev pub invariant-loop-step : goal.invariant-loop-step
invariant-loop-step l = (old new : Shown) (all begin : Treap Row) (left : List Row) → Tables l.draft l.cache old new → Piling old new l.draft l.cache l.after all begin left l.initial.waiting.items l.fn.link 1
    → Piling old new l.draft l.cache l.after all begin left l.waiting.items l.at (suc l._step)
