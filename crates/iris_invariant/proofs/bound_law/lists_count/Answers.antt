use Rattle.iris_invariant.proofs.Bounds.{lists_count}
use Rattle.iris_invariant.proofs.bound_law.lists_count.Goals as goal

pub returns : goal.returns
returns c = lists_count
