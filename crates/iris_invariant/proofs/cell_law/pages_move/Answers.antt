use Rattle.iris_invariant.proofs.Pages.{pages_move}
use Rattle.iris_invariant.proofs.cell_law.pages_move.Goals as goal

pub returns : goal.returns
returns g c = pages_move g.P.Portal.kept
