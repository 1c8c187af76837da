use Rattle.iris_invariant.proofs.ParentLaws.{evidence_stays}
use Rattle.iris_invariant.proofs.parent_law.evidence_stays.Goals as goal

pub returns : goal.returns
returns g c = evidence_stays g.P.Portal.kept
