use Rattle.std.proofs.Common.{◌∙◌, ◌++◌, ap, take, drop}
use Rattle.iris_rows.specs.Changes.{trash_name}
use Rattle.iris_rows.specs.Items.{grown}
use Rattle.iris_table.specs.Stops.{run_row, after_run}
use Rattle.iris_table.proofs.RowTakenOut.{thrown_is, id_at, child_within}
use Rattle.iris_table.proofs.trash.throw_first.Goals as goal

pub returns-clause-ok : goal.returns-clause-ok
returns-clause-ok c = thrown_is c.in_ok-run.run'.items c.lift.new.items.items (take 1 c.args.trash.now.items ++ after_run (drop 1 c.args.trash.now.items)) c.in_ok-name.name (run_row (drop 1 c.args.trash.now.items)) (grown 0 c.put_in_trash.new.trash.items)
    c.in_ok-run.ensures.run c.in_ok-run.ensures.row (c.in_ok-name.ensures ∙ ap trash_name (id_at c.args.trash.now.items 1 c.index.result.now c.index.ensures (child_within c.args.trash.now.items c.requires.within))) c.put_in_trash.ensures.rows c.in_ok-run.ensures.left
