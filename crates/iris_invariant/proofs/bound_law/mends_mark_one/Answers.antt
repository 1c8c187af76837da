use Rattle.iris_invariant.proofs.Bounds.{mends_mark_one}
use Rattle.iris_invariant.proofs.bound_law.mends_mark_one.Goals as goal

pub returns : goal.returns
returns g c = mends_mark_one g.P.Portal.kept
