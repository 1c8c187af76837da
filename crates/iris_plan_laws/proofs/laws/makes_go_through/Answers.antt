use Rattle.iris_plan_laws.proofs.MadeRow as made
use Rattle.iris_plan_laws.proofs.laws.makes_go_through.Goals as goal

pub returns : goal.returns
returns c = made.makes_go_through
