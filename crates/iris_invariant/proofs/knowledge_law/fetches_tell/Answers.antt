use Rattle.iris_invariant.proofs.Knowledge.{fetches_tell}
use Rattle.iris_invariant.proofs.knowledge_law.fetches_tell.Goals as goal

pub returns : goal.returns
returns g c = fetches_tell g.P.Portal.kept g.P.Portal.rules
