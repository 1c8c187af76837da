use Rattle.iris_standing.proofs.NotedTransfers.{fruitless_gets_go_on}
use Rattle.iris_standing.proofs.transfers.fruitless_gets_go_on.Goals as goal

pub returns : goal.returns
returns c = fruitless_gets_go_on
