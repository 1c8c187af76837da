use Rattle.std.proofs.Common.{◌∙◌, ap, arith, drop}
use Rattle.iris_rows.specs.Changes.{trash_name}
use Rattle.iris_rows.specs.Items.{grown}
use Rattle.iris_table.specs.Stops.{run_row}
use Rattle.iris_table.proofs.RowTakenOut.{thrown_is, id_at}
use Rattle.iris_table.proofs.trash.throw.Goals as goal

pub returns-clause-trash : goal.returns-clause-trash
returns-clause-trash c = thrown_is c.in_ok-run.run'.items c.reserve.new.self.items c.args.trash.now.items c.in_ok-name.name (run_row (drop c.args.place c.args.visible.now.items)) (grown 0 c.put_in_trash.new.trash.items)
    c.in_ok-run.ensures.run c.in_ok-run.ensures.row (c.in_ok-name.ensures ∙ ap trash_name (id_at c.args.visible.now.items c.args.place c.index-item.result.now c.index-item.ensures (omega (arith, c.args.visible.now.ok.0)))) c.put_in_trash.ensures.rows c.reserve.ensures.items
