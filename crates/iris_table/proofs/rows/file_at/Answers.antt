use Rattle.std.proofs.Common.{sym, ◌∙◌, ap}
use Rattle.iris_table.specs.Stops.{file_met}
use Rattle.iris_table.proofs.MetRow.{some_names, met_standing, file_lent, no_file_met}
use Rattle.iris_table.proofs.rows.file_at.Goals as goal

pub returns-in-Standing : goal.returns-in-Standing
returns-in-Standing c = file_lent c.as_ref.result c.index-items-place.result.file _ (c.as_ref.ensures.value ∙ ap (λ i. i.file) (sym c.index-items-place.is))
    (ap file_met (met_standing c.args.items.now c.args.names.now c.in-Standing.place c.index-items-place.result (some_names c.args.names.now (sym c.if-is_empty.ensures)) c.in-Standing.ensures.value c.index-items-place.is c.in-Standing.ensures.within))

pub returns-in_default : goal.returns-in_default
returns-in_default c = no_file_met c.args.items.now c.args.names.now c.resolve.result (some_names c.args.names.now (sym c.if-is_empty.ensures)) c.resolve.ensures.value c.in_default.not-Standing
