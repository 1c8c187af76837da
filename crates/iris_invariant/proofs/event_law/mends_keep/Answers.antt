use Rattle.iris_invariant.proofs.EventLaws.{mends_keep}
use Rattle.iris_invariant.proofs.event_law.mends_keep.Goals as goal

pub returns : goal.returns
returns g c = mends_keep g.P.Portal.kept g.P.Portal.rules
