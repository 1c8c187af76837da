use Rattle.iris_desk.proofs.LookingUp.{enter_looks}
use Rattle.iris_desk.proofs.laws.enter_looks_up.Goals as goal

pub returns : goal.returns
returns c = enter_looks
