use Rattle.iris_desk.proofs.LookingUp.{ask_looks}
use Rattle.iris_desk.proofs.laws.ask_looks_up.Goals as goal

pub returns : goal.returns
returns c = ask_looks
