use Rattle.iris_shape.proofs.FoldProofs as lemmas
use Rattle.iris_shape.proofs.laws.folded_at.Goals as goal

pub returns : goal.returns
returns c = lemmas.folded_at
