use Rattle.iris_invariant.proofs.Answering.{failed_puts_refuse}
use Rattle.iris_invariant.proofs.answer_law.failed_puts_refuse.Goals as goal

pub returns : goal.returns
returns g c = failed_puts_refuse g.P.Portal.kept g.P.Portal.rules
