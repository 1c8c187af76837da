use Rattle.iris_invariant.proofs.Answering.{failed_discards_refuse}
use Rattle.iris_invariant.proofs.answer_law.failed_discards_refuse.Goals as goal

pub returns : goal.returns
returns g c = failed_discards_refuse g.P.Portal.kept g.P.Portal.rules
