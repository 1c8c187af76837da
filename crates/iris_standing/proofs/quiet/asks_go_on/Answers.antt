use Rattle.iris_standing.proofs.AskedRequests.{asks_go_on}
use Rattle.iris_standing.proofs.quiet.asks_go_on.Goals as goal

pub returns : goal.returns
returns c = asks_go_on
