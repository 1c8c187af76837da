use Rattle.iris_plain.specs.Routes.{parent}
use Rattle.iris_table.proofs.RowTakenOut.{gone_ok, emptied_ok, dir_stays, not_under, parent_there}
use Rattle.iris_table.proofs.moving.empty.Goals as goal

pub put_at-requires-clause-parent : goal.put_at-requires-clause-parent
put_at-requires-clause-parent c = dir_stays c.args.visible.now.items c.remove.new.visible.items c.args.names.now (parent c.args.names.now) c.requires.named c.requires.distinct
    (gone_ok c.args.visible.now.items c.remove.new.visible.items c.args.trash.now.items c.remove.new.trash.items c.args.names.now c.requires.there c.in_ok-remove.ensures.ok)
    (not_under c.args.names.now c.requires.named) (parent_there c.args.visible.now.items c.args.names.now c.requires.named c.requires.there)

pub returns-clause-ok : goal.returns-clause-ok
returns-clause-ok c = emptied_ok c.args.visible.now.items c.remove.new.visible.items c.args.trash.now.items c.remove.new.trash.items c.args.names.now c.requires.there c.in_ok-remove.ensures.ok
    c.args.id.0 c.put_at.new.items.items c.in_ok-fresh.fresh.items c.args.file c.in_ok-fresh.ensures.row c.requires.file c.put_at.ensures.rows
