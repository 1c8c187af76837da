use Rattle.std.proofs.Common.{length}
use Rattle.iris_script.proofs.PathWords.{IsFrontOf}
use Rattle.iris_script.proofs.path.unescape.Given as goal

abbrev pub invariant-loop-rest : goal.invariant-loop-rest
invariant-loop-rest l = IsFrontOf l.fn.word l.rest l.bytes.items

abbrev pub decreases-loop-rest : goal.decreases-loop-rest
decreases-loop-rest l = length l.rest
