use Rattle.std.proofs.Common.{◌^◌}
use Rattle.iris_rows.specs.FileChanges.{file_written}
use Rattle.iris_rows.specs.Changes.{seen_row}
use Rattle.iris_table.specs.Stops.{met_in}
use Rattle.iris_table.proofs.RowTakenOut.{ok_one, filed_ok, counter_ok, forest_filed, must_stand, file_there}
use Rattle.iris_table.proofs.moving.write_at.Goals as goal

pub write_item-requires-clause-counter : goal.write_item-requires-clause-counter
write_item-requires-clause-counter c = counter_ok c.args.items.now c.args.names.now c.in-Standing.place c.index-items-place.result (2 ^ 63) c.requires.named c.in-Standing.ensures.value c.in-Standing.ensures.within c.index-items-place.is c.requires.counter

pub returns-in-Standing-clause-ok : goal.returns-in-Standing-clause-ok
returns-in-Standing-clause-ok c = ok_one c.write_item.result
    (λ f. filed_ok c.args.items.now c.args.names.now c.in-Standing.place (file_written c.args.offset c.args.bytes.now) c.index-items-place.result c.write_item.new.item c.requires.named c.in-Standing.ensures.value c.in-Standing.ensures.within c.index-items-place.is f) c.write_item.ensures.ok

pub returns-in-Standing-clause-forest : goal.returns-in-Standing-clause-forest
returns-in-Standing-clause-forest c f = forest_filed c.args.items.now c.in-Standing.place c.index-items-place.result c.write_item.new.item c.in-Standing.ensures.within c.index-items-place.is c.write_item.ensures.depth c.write_item.ensures.kind f

pub returns-in_default : goal.returns-in_default
returns-in_default c = absurd (must_stand c.args.items.now c.args.names.now c.resolve.result c.requires.named c.resolve.ensures.value c.in_default.not-Standing (file_there (seen_row (met_in c.args.items.now c.args.names.now)) c.requires.file))
