use Rattle.iris_standing.proofs.GivenUp.{withdrawals_go_on}
use Rattle.iris_standing.proofs.quiet.withdrawals_go_on.Goals as goal

pub returns : goal.returns
returns c = withdrawals_go_on
