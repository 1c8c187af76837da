use Rattle.std.proofs.Common.{◌≡◌, ◌+◌, drop}
use Rattle.iris_table.specs.Stops.{deeper}
use Rattle.iris_table.proofs.rows.run.Given as goal

abbrev pub invariant-loop-item : goal.invariant-loop-item
invariant-loop-item l = (l.count ≡ l.item-index) × (deeper l.depth (drop l.from l.items) ≡ l.count + deeper l.depth (drop l.item-index (drop l.from l.items)))
