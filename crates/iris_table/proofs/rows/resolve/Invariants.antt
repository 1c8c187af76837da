use Rattle.std.proofs.Common.{◌≡◌, ◌<◌, length, drop}
use Rattle.iris_table.specs.Stops.{stop}
use Rattle.iris_table.proofs.StopAmongItems.{moved_on}
use Rattle.iris_table.proofs.rows.resolve.Given as goal

abbrev pub invariant-loop-k : goal.invariant-loop-k
invariant-loop-k l = (l.level < length l.names) × (stop 0 l.names l.items ≡ moved_on l.k (stop l.level (drop l.level l.names) (drop l.k l.items)))
