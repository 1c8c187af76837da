use Rattle.iris_invariant.proofs.ParentLaws.{parents_stay}
use Rattle.iris_invariant.proofs.parent_law.parents_stay.Goals as goal

pub returns : goal.returns
returns g c = parents_stay g.P.Portal.kept
