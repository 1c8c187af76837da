use Rattle.iris_invariant.proofs.EventLaws.{puts_begin}
use Rattle.iris_invariant.proofs.event_law.puts_begin.Goals as goal

pub returns : goal.returns
returns g c = puts_begin g.P.Portal.kept g.P.Portal.rules
