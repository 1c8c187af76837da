use Rattle.std.proofs.Common.{◌≡◌, ◌+◌, ◌≤◌, length, drop}
use Rattle.iris_records.specs.Pieces.{lesser}
use Rattle.iris_records.proofs.shelf.count_before.Given as goal

abbrev pub invariant-loop-i : goal.invariant-loop-i
invariant-loop-i l = (lesser l.name l.records ≡ l.i + lesser l.name (drop l.i l.records)) × (l.i ≤ length l.records)
