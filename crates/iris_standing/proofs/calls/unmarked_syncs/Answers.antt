use Rattle.iris_standing.proofs.IdleCalls.{unmarked_syncs}
use Rattle.iris_standing.proofs.calls.unmarked_syncs.Goals as goal

pub returns : goal.returns
returns c = unmarked_syncs
