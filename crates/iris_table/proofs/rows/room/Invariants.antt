use Rattle.std.proofs.Common.{◌≡◌, ◌+◌, drop}
use Rattle.iris_table.specs.Stops.{room}
use Rattle.iris_table.proofs.rows.room.Given as goal

abbrev pub invariant-loop-item : goal.invariant-loop-item
invariant-loop-item l = (l.count ≡ l.item-index) × (room l.depth l.name (drop l.from l.items) ≡ l.count + room l.depth l.name (drop l.item-index (drop l.from l.items)))
