use Rattle.std.proofs.Common.{length}
use Rattle.iris_shape.proofs.folding.+fold.Given as goal

abbrev pub decreases-fold : goal.decreases-fold
decreases-fold l = length l.versions.now
