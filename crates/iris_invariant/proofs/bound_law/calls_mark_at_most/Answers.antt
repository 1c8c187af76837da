use Rattle.iris_invariant.proofs.Bounds.{calls_mark_at_most}
use Rattle.iris_invariant.proofs.bound_law.calls_mark_at_most.Goals as goal

pub returns : goal.returns
returns g c = calls_mark_at_most g.P.Portal.kept
