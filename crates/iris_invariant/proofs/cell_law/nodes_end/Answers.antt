use Rattle.iris_invariant.proofs.CellLaws.{nodes_end}
use Rattle.iris_invariant.proofs.cell_law.nodes_end.Goals as goal

pub returns : goal.returns
returns c = nodes_end
