use Rattle.iris_invariant.proofs.EventLaws.{fruitless_gets_keep}
use Rattle.iris_invariant.proofs.event_law.fruitless_gets_keep.Goals as goal

pub returns : goal.returns
returns g c = fruitless_gets_keep g.P.Portal.kept g.P.Portal.rules
