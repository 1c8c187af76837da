use Rattle.iris_invariant.proofs.CellLaws.{pages_bring}
use Rattle.iris_invariant.proofs.cell_law.pages_bring.Goals as goal

pub returns : goal.returns
returns c = pages_bring
