use Rattle.iris_invariant.proofs.Knowledge.{needs_are_new}
use Rattle.iris_invariant.proofs.knowledge_law.needs_are_new.Goals as goal

pub returns : goal.returns
returns g c = needs_are_new g.P.Portal.kept g.P.Portal.rules
