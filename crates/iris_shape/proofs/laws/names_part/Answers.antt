use Rattle.iris_shape.proofs.LawProofs as lemmas
use Rattle.iris_shape.proofs.laws.names_part.Goals as goal

pub returns : goal.returns
returns g c = lemmas.names_part
