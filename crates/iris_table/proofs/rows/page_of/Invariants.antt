use Rattle.std.proofs.Common.{◌++◌, ◌-◌, ℕ, List}
use Rattle.iris_plain.specs.Pages.{IsPage}
use Rattle.iris_rows.specs.Items.{grown}
use Rattle.iris_table.specs.Stops.{is_name_of}
use Rattle.iris_table.proofs.rows.page_of.Given as goal

abbrev pub invariant-loop-i : goal.invariant-loop-i
invariant-loop-i l = (tail : List (List ℕ)) → IsPage (is_name_of (grown l.depth l.items)) (64 - l._i) l.last tail → IsPage (is_name_of (grown l.depth l.items)) 64 l.after (l.page ++ tail)
