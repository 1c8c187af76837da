use Rattle.iris_invariant.proofs.EventLaws.{discards_begin}
use Rattle.iris_invariant.proofs.event_law.discards_begin.Goals as goal

pub returns : goal.returns
returns g c = discards_begin g.P.Portal.kept g.P.Portal.rules
