use Rattle.iris_shape.proofs.Orderly as lemmas
use Rattle.iris_shape.proofs.laws.rows_in_order.Goals as goal

pub returns : goal.returns
returns c = lemmas.rows_in_order
