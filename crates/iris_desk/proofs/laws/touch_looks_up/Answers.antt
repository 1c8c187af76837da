use Rattle.iris_desk.proofs.LookingUp.{touch_looks}
use Rattle.iris_desk.proofs.laws.touch_looks_up.Goals as goal

pub returns : goal.returns
returns c = touch_looks
