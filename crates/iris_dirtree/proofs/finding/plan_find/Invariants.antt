use Rattle.std.proofs.Common.{ℕ, List, suc}
use Rattle.iris_node.specs.Trees.{Shown}
use Rattle.iris_treepaths.specs.Rows.{Row}
use Rattle.iris_treepaths.specs.Needs.{Listed}
use Rattle.iris_dirtree.proofs.Searches.{Search}
use Rattle.iris_dirtree.proofs.finding.plan_find.Given as goal

-- the row, if there is one, stands below the link
abbrev pub invariant-loop-step : goal.invariant-loop-step
invariant-loop-step l = (key : List ℕ) (old new : Shown) (rows : List Row) → Listed key l.fn.dir l.draft l.cache old new rows → Search key l.name old new l.draft l.cache rows l.at (suc l._step)
