use Rattle.std.proofs.Common.{sym, subst, List, ℕ}
use Rattle.iris_plain.specs.Pages.{IsPage}
use Rattle.iris_plain.specs.Steps.{has_entry_named}
use Rattle.iris_rows.specs.View.{kind_below}
use Rattle.iris_table.specs.Stops.{root_of}
use Rattle.iris_table.proofs.RowTakenOut.{if_ok}
use Rattle.iris_table.proofs.DirectoryRows.{page_rest, page_none}
use Rattle.iris_table.proofs.rows.page.Goals as goal

pub returns-in-ADirectory : goal.returns-in-ADirectory
returns-in-ADirectory c = if_ok c.page_of.result
    (λ page p. page_rest c.args.items.now c.args.names.now c.args.after.now page c.begin.result c.in-ADirectory.ensures c.begin.ensures.value p) c.page_of.ensures

pub returns-in_default : goal.returns-in_default
returns-in_default c = let Q : List (List ℕ) → Type 0 = λ page. IsPage (has_entry_named (λ path. kind_below path (root_of c.args.items.now)) c.args.names.now) 64 c.args.after.now page in
    subst Q (sym c.new.ensures) (page_none c.args.items.now c.args.names.now c.args.after.now c.seen.result c.seen.ensures c.in_default.not-ADirectory)
