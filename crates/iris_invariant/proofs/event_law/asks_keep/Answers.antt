use Rattle.iris_invariant.proofs.EventLaws.{asks_keep}
use Rattle.iris_invariant.proofs.event_law.asks_keep.Goals as goal

pub returns : goal.returns
returns g c = asks_keep g.P.Portal.kept g.P.Portal.rules
