use Rattle.std.proofs.Common.{◌∙◌, ap}
use Rattle.iris_table.specs.Stops.{stop}
use Rattle.iris_table.proofs.RowTakenOut.{ok_both, removed_ok, must_stand}
use Rattle.iris_table.proofs.moving.remove.Goals as goal

pub returns-in-Standing-clause-ok : goal.returns-in-Standing-clause-ok
returns-in-Standing-clause-ok c = ok_both c.throw.result
    (λ l t. removed_ok c.args.visible.now.items c.throw.new.visible.items c.args.names.now c.in-Standing.place c.requires.named (c.in-Standing.ensures.value ∙ ap (stop 0 c.args.names.now) c.as_slice.ensures.value) l c.args.trash.now.items c.throw.new.trash.items t)
    c.throw.ensures.left c.throw.ensures.trash

pub returns-in_default : goal.returns-in_default
returns-in_default c = absurd (must_stand c.args.visible.now.items c.args.names.now c.resolve.result c.requires.named (c.resolve.ensures.value ∙ ap (stop 0 c.args.names.now) c.as_slice.ensures.value) c.in_default.not-Standing c.requires.there)
