use Rattle.iris_desk.proofs.LookingUp.{end_looks}
use Rattle.iris_desk.proofs.laws.end_looks_up.Goals as goal

pub returns : goal.returns
returns c = end_looks
