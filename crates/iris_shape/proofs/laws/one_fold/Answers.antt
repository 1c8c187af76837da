use Rattle.iris_shape.proofs.FoldProofs as lemmas
use Rattle.iris_shape.proofs.laws.one_fold.Goals as goal

pub returns : goal.returns
returns c = lemmas.one_fold
