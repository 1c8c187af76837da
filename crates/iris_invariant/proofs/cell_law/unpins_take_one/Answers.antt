use Rattle.iris_invariant.proofs.CellLaws.{unpins_take_one}
use Rattle.iris_invariant.proofs.cell_law.unpins_take_one.Goals as goal

pub returns : goal.returns
returns c = unpins_take_one
