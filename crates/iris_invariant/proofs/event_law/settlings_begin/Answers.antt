use Rattle.iris_invariant.proofs.EventLaws.{settlings_begin}
use Rattle.iris_invariant.proofs.event_law.settlings_begin.Goals as goal

pub returns : goal.returns
returns g c = settlings_begin g.P.Portal.kept g.P.Portal.rules
