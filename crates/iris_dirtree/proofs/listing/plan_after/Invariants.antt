use Rattle.std.proofs.Common.{ℕ, List}
use Rattle.iris_node.specs.Trees.{Shown}
use Rattle.iris_treepaths.specs.Rows.{Row}
use Rattle.iris_treepaths.specs.Needs.{Listed}
use Rattle.iris_dirtree.proofs.Listings.{Page}
use Rattle.iris_dirtree.proofs.listing.plan_after.Given as goal

-- so many rows of the page are listed
abbrev pub invariant-loop-row : goal.invariant-loop-row
invariant-loop-row l = (key : List ℕ) (old new : Shown) (rows : List Row) → Listed key l.fn.dir l.draft l.cache old new rows → Page key l.after l.fn.most old new l.draft l.cache rows l.names l.waiting.items l.at l._row
