use Rattle.std.proofs.Common.{drop}
use Rattle.iris_table.proofs.PageOfNames.{IsBest}
use Rattle.iris_table.proofs.rows.next_name.Given as goal

abbrev pub invariant-loop-item : goal.invariant-loop-item
invariant-loop-item l = IsBest l.depth l.after (drop l.item-index l.items) l.items l.best
