use Rattle.iris_standing.proofs.NotedTransfers.{notes_stand}
use Rattle.iris_standing.proofs.transfers.notes_stand.Goals as goal

pub returns : goal.returns
returns c = notes_stand
