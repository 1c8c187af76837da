use Rattle.iris_invariant.proofs.Bounds.{others_mark_nothing}
use Rattle.iris_invariant.proofs.bound_law.others_mark_nothing.Goals as goal

pub returns : goal.returns
returns c = others_mark_nothing
