use Rattle.iris_shape.proofs.LawProofs as lemmas
use Rattle.iris_shape.proofs.laws.one_treap.Goals as goal

pub returns : goal.returns
returns g c = lemmas.one_treap
