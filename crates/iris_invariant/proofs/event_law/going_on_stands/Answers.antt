use Rattle.iris_invariant.proofs.EventLaws.{quiet_stands}
use Rattle.iris_invariant.proofs.event_law.going_on_stands.Goals as goal

pub returns : goal.returns
returns g c = quiet_stands g.P.Portal.kept g.P.Portal.rules
