use Rattle.iris_invariant.proofs.Knowledge.{unmarked_is_synced}
use Rattle.iris_invariant.proofs.knowledge_law.unmarked_is_synced.Goals as goal

pub returns : goal.returns
returns g c = unmarked_is_synced g.P.Portal.kept g.P.Portal.rules
