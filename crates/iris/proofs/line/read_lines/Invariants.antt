use Rattle.std.proofs.Common.{length}
use Rattle.iris.proofs.ReadSoFar.{IsSoFar}
use Rattle.iris.proofs.line.read_lines.Given as goal

abbrev pub invariant-loop-rest : goal.invariant-loop-rest
invariant-loop-rest l = IsSoFar l.fn.script l.rest l.lines.items

abbrev pub decreases-loop-rest : goal.decreases-loop-rest
decreases-loop-rest l = length l.rest
