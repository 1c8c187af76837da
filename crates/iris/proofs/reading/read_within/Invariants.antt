use Rattle.std.proofs.Common.{◌≡◌, ◌≤◌, length}
use Rattle.iris.proofs.Sources.{IsTaken}
use Rattle.iris.proofs.reading.read_within.Given as goal

abbrev pub invariant-loop-i : goal.invariant-loop-i
invariant-loop-i g l = record {
  turns : l.i ≤ length l.bytes.items;
  short : length l.bytes.items ≤ l.most;
  piece : length l.piece ≡ length l.initial.piece;
  taken : IsTaken (g.R.Source.left l.initial.source) (g.R.Source.left l.source) l.bytes.items;
  later : g.R.Source.faults l.initial.source ≤ g.R.Source.faults l.source;
}
