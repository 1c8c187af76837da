use Rattle.iris_invariant.proofs.CellLaws.{nodes_are_held}
use Rattle.iris_invariant.proofs.cell_law.nodes_are_held.Goals as goal

pub returns : goal.returns
returns c = nodes_are_held
