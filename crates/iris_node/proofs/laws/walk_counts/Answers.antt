use Rattle.iris_node.proofs.Walking.{counted}
use Rattle.iris_node.proofs.laws.walk_counts.Goals as goal

pub returns : goal.returns
returns c = counted
