use Rattle.iris_shape.proofs.LawProofs as lemmas
use Rattle.iris_shape.proofs.laws.nodes_after_merge.Goals as goal

pub returns : goal.returns
returns g c = lemmas.nodes_after_merge
