use Rattle.iris_invariant.proofs.EventLaws.{note_stands}
use Rattle.iris_invariant.proofs.event_law.going_on_by_stands.Goals as goal

pub returns : goal.returns
returns g c = note_stands g.P.Portal.kept g.P.Portal.rules
