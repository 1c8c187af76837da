use Rattle.iris_shape.proofs.LawProofs as lemmas
use Rattle.iris_shape.proofs.laws.treap_put.Goals as goal

pub returns : goal.returns
returns g c = lemmas.treap_put
