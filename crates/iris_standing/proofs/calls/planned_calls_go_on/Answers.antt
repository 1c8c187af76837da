use Rattle.iris_standing.proofs.PlannedCalls.{planned_calls_go_on}
use Rattle.iris_standing.proofs.calls.planned_calls_go_on.Goals as goal

pub returns : goal.returns
returns c = planned_calls_go_on
