use Rattle.iris_desk.proofs.LookingUp.{listed_is}
use Rattle.iris_desk.proofs.laws.listed_is_out.Goals as goal

pub returns : goal.returns
returns c = listed_is
