use Rattle.iris_plan_laws.proofs.MovedRow as moved
use Rattle.iris_plan_laws.proofs.laws.moves_go_through.Goals as goal

pub returns : goal.returns
returns c = moved.moves_go_through
