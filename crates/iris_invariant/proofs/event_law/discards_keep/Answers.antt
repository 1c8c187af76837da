use Rattle.iris_invariant.proofs.EventLaws.{discards_keep}
use Rattle.iris_invariant.proofs.event_law.discards_keep.Goals as goal

pub returns : goal.returns
returns g c = discards_keep g.P.Portal.kept g.P.Portal.rules
