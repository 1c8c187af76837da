use Rattle.std.proofs.Common.{sym}
use Rattle.iris_rows.specs.Rows.{zeros}
use Rattle.iris_rows.proofs.places.block.Goals as goal

pub returns-in-None : goal.returns-in-None
unfolding zeros
returns-in-None c = sym c.in-None.ensures
