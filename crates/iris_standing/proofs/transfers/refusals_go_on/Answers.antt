use Rattle.iris_standing.proofs.RefusedTransfers.{refusals_go_on}
use Rattle.iris_standing.proofs.transfers.refusals_go_on.Goals as goal

pub returns : goal.returns
returns c = refusals_go_on
