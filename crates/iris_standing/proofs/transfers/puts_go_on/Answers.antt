use Rattle.iris_standing.proofs.NotedTransfers.{puts_go_on}
use Rattle.iris_standing.proofs.transfers.puts_go_on.Goals as goal

pub returns : goal.returns
returns c = puts_go_on
