use Rattle.iris_invariant.proofs.Knowledge.{marks_crowd}
use Rattle.iris_invariant.proofs.knowledge_law.marks_crowd.Goals as goal

pub returns : goal.returns
returns g c = marks_crowd g.P.Portal.kept g.P.Portal.rules
