use Rattle.iris_invariant.proofs.Pages.{pages_end}
use Rattle.iris_invariant.proofs.cell_law.pages_end.Goals as goal

pub returns : goal.returns
returns c = pages_end
