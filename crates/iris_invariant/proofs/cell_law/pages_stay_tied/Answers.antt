use Rattle.iris_invariant.proofs.Pages.{pages_stay_tied}
use Rattle.iris_invariant.proofs.cell_law.pages_stay_tied.Goals as goal

pub returns : goal.returns
returns c = pages_stay_tied
