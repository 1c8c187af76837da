use Rattle.iris_shape.proofs.LawProofs as lemmas
use Rattle.iris_shape.proofs.laws.priorities_rank.Goals as goal

pub returns : goal.returns
returns g c = lemmas.priorities_rank
