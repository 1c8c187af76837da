use Rattle.iris_invariant.proofs.Bounds.{calls_keep_the_bound}
use Rattle.iris_invariant.proofs.bound_law.calls_keep_the_bound.Goals as goal

pub returns : goal.returns
returns g c = calls_keep_the_bound g.P.Portal.kept
