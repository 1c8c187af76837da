use Rattle.iris_desk.proofs.LookingUp.{out_is_at}
use Rattle.iris_desk.proofs.laws.out_is_at_its_desk.Goals as goal

pub returns : goal.returns
returns c = out_is_at
