use Rattle.std.proofs.Common.{sym, ◌∙◌, ap}
use Rattle.iris_table.specs.Stops.{has_child}
use Rattle.iris_table.proofs.RowTakenOut.{ok_one, reclaims_child}
use Rattle.iris_table.proofs.trash.reclaim.Goals as goal

pub returns-then-has_child-clause-ok : goal.returns-then-has_child-clause-ok
returns-then-has_child-clause-ok c = ok_one c.throw_first.result
    (λ e visible next age. reclaims_child visible c.args.trash.now.items c.throw_first.new.trash.items next age c.requires (ap has_child (sym c.as_slice.ensures.value) ∙ sym c.has_child.ensures ∙ c.if-has_child.true) e) c.throw_first.ensures.ok
