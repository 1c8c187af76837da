-- Folds as the program's values.
use Rattle.iris_shape.specs.Folds.{Fold, One, Two}
use Rattle.iris_shape.specs.declared.folding.Folded.{Folded}
use Rattle.iris_shape.specs.declared.folding.Folded as folded

abbrev pub made_fold : Fold → Folded
made_fold (One v) = folded.One v
made_fold (Two low high) = folded.Two (made_fold low) (made_fold high)
