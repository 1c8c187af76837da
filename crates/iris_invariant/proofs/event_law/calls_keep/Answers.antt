use Rattle.iris_invariant.proofs.EventLaws.{calls_keep}
use Rattle.iris_invariant.proofs.event_law.calls_keep.Goals as goal

pub returns : goal.returns
returns g c = calls_keep g.P.Portal.kept g.P.Portal.rules
