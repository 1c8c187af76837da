use Rattle.iris_shape.proofs.LawProofs as lemmas
use Rattle.iris_shape.proofs.laws.way_after_removal.Goals as goal

pub returns : goal.returns
returns g c = lemmas.way_after_removal
