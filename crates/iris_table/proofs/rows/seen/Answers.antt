use Rattle.std.proofs.Common.{sym, ◌∙◌, ap}
use Rattle.iris_rows.specs.Changes.{seen_row}
use Rattle.iris_table.proofs.MetRow.{some_names, met_standing, met_absent, met_barred}
use Rattle.iris_table.proofs.rows.seen.Goals as goal

pub returns-in-Standing : goal.returns-in-Standing
returns-in-Standing c = c.seen_item.ensures ∙ ap seen_row (sym (met_standing c.args.items.now c.args.names.now c.in-Standing.place c.index-items-place.result (some_names c.args.names.now (sym c.if-is_empty.ensures)) c.in-Standing.ensures.value c.index-items-place.is c.in-Standing.ensures.within))

pub returns-in-Absent : goal.returns-in-Absent
returns-in-Absent c = ap seen_row (sym (met_absent c.args.items.now c.args.names.now (some_names c.args.names.now (sym c.if-is_empty.ensures)) c.in-Absent.ensures.value))

pub returns-in-Barred : goal.returns-in-Barred
returns-in-Barred c = ap seen_row (sym (met_barred c.args.items.now c.args.names.now (some_names c.args.names.now (sym c.if-is_empty.ensures)) c.in-Barred.ensures.value))
