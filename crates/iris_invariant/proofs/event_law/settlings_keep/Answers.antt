use Rattle.iris_invariant.proofs.EventLaws.{settlings_keep}
use Rattle.iris_invariant.proofs.event_law.settlings_keep.Goals as goal

pub returns : goal.returns
returns g c = settlings_keep g.P.Portal.kept g.P.Portal.rules
