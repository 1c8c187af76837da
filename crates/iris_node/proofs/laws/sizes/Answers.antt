use Rattle.iris_node.proofs.Lengths as lemmas
use Rattle.iris_node.proofs.laws.sizes.Goals as goal

pub returns : goal.returns
returns c = lemmas.sizes
