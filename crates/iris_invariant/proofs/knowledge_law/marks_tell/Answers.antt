use Rattle.iris_invariant.proofs.Knowledge.{marks_tell}
use Rattle.iris_invariant.proofs.knowledge_law.marks_tell.Goals as goal

pub returns : goal.returns
returns g c = marks_tell g.P.Portal.kept g.P.Portal.rules
