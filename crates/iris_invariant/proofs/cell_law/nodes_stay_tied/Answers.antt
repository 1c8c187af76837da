use Rattle.iris_invariant.proofs.CellLaws.{nodes_stay_tied}
use Rattle.iris_invariant.proofs.cell_law.nodes_stay_tied.Goals as goal

pub returns : goal.returns
returns c = nodes_stay_tied
