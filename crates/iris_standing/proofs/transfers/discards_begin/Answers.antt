use Rattle.iris_standing.proofs.BegunChores.{discards_begin_so}
use Rattle.iris_standing.proofs.transfers.discards_begin.Goals as goal

pub returns : goal.returns
returns c = discards_begin_so
