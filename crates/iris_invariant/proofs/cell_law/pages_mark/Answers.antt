use Rattle.iris_invariant.proofs.Pages.{pages_mark}
use Rattle.iris_invariant.proofs.cell_law.pages_mark.Goals as goal

pub returns : goal.returns
returns c = pages_mark
