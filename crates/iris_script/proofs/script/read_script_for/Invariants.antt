use Rattle.std.proofs.Common.{length}
use Rattle.iris_script.specs.Script.{AreServed}
use Rattle.iris_script.proofs.ScriptSoFar.{IsSoFar}
use Rattle.iris_script.proofs.script.read_script_for.Given as goal

abbrev pub invariant-loop-rest : goal.invariant-loop-rest
invariant-loop-rest g l = IsSoFar l.fn.bytes l.rest l.number l.calls.items × AreServed g.S.Service.serves l.calls.items

abbrev pub decreases-loop-rest : goal.decreases-loop-rest
decreases-loop-rest g l = length l.rest
