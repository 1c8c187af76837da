use Rattle.iris_invariant.proofs.CellLaws.{nodes_bring}
use Rattle.iris_invariant.proofs.cell_law.nodes_bring.Goals as goal

pub returns : goal.returns
returns c = nodes_bring
