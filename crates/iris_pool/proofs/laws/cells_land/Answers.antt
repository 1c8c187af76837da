use Rattle.iris_pool.proofs.LandedCells.{cells_land}
use Rattle.iris_pool.proofs.laws.cells_land.Goals as goal

pub returns : goal.returns
returns c = cells_land
