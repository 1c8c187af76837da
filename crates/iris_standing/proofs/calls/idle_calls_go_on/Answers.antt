use Rattle.iris_standing.proofs.IdleCalls.{idle_calls_go_on}
use Rattle.iris_standing.proofs.calls.idle_calls_go_on.Goals as goal

pub returns : goal.returns
returns c = idle_calls_go_on
