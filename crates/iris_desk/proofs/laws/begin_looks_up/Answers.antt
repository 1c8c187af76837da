use Rattle.iris_desk.proofs.LookingUp.{begin_looks}
use Rattle.iris_desk.proofs.laws.begin_looks_up.Goals as goal

pub returns : goal.returns
returns c = begin_looks
