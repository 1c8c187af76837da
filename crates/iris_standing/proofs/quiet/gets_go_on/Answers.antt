use Rattle.iris_standing.proofs.BegunGets.{gets_go_on}
use Rattle.iris_standing.proofs.quiet.gets_go_on.Goals as goal

pub returns : goal.returns
returns c = gets_go_on
