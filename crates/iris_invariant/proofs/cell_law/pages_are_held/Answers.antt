use Rattle.iris_invariant.proofs.Pages.{pages_are_held}
use Rattle.iris_invariant.proofs.cell_law.pages_are_held.Goals as goal

pub returns : goal.returns
returns c = pages_are_held
