use Rattle.iris_invariant.proofs.CellLaws.{nodes_move}
use Rattle.iris_invariant.proofs.cell_law.nodes_move.Goals as goal

pub returns : goal.returns
returns g c = nodes_move g.P.Portal.kept
