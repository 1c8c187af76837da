use Rattle.iris_invariant.proofs.EventLaws.{puts_keep}
use Rattle.iris_invariant.proofs.event_law.puts_keep.Goals as goal

pub returns : goal.returns
returns g c = puts_keep g.P.Portal.kept g.P.Portal.rules
