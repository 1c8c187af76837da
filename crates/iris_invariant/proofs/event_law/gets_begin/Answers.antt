use Rattle.iris_invariant.proofs.EventLaws.{gets_begin}
use Rattle.iris_invariant.proofs.event_law.gets_begin.Goals as goal

pub returns : goal.returns
returns g c = gets_begin g.P.Portal.kept g.P.Portal.rules
