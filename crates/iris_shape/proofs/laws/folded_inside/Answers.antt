use Rattle.iris_shape.proofs.FoldProofs as lemmas
use Rattle.iris_shape.proofs.laws.folded_inside.Goals as goal

pub returns : goal.returns
returns c = lemmas.folded_inside
