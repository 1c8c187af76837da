use Rattle.iris_invariant.proofs.Answering.{failed_gets_refuse}
use Rattle.iris_invariant.proofs.answer_law.failed_gets_refuse.Goals as goal

pub returns : goal.returns
returns g c = failed_gets_refuse g.P.Portal.kept g.P.Portal.rules
