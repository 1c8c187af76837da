use Rattle.std.proofs.Common.{arith}
use Rattle.iris_script.proofs.Cutting.{IsNumber-same}
use Rattle.iris_script.proofs.script.read_client.Goals as goal

pub returns-then-client-eq0-clause-none : goal.returns-then-client-eq0-clause-none
returns-then-client-eq0-clause-none c =
    λ client h some. let same = IsNumber-same c.args.word.now c.in-Some.client client c.in-Some.ensures.some h in omega (arith, same, some)
