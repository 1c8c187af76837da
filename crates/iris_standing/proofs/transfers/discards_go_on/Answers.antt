use Rattle.iris_standing.proofs.NotedTransfers.{discards_go_on}
use Rattle.iris_standing.proofs.transfers.discards_go_on.Goals as goal

pub returns : goal.returns
returns c = discards_go_on
