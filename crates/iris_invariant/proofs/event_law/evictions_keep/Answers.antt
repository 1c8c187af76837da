use Rattle.iris_invariant.proofs.EventLaws.{evictions_keep}
use Rattle.iris_invariant.proofs.event_law.evictions_keep.Goals as goal

pub returns : goal.returns
returns g c = evictions_keep g.P.Portal.kept g.P.Portal.rules
