-- What the program's folds and shapes are: the other way round of how they are made.
use Rattle.std.specs.Prelude.{ℕ}
use Rattle.iris_shape.specs.Folds.{Fold, One, Two}
use Rattle.iris_shape.specs.Treap.{Treap, Empty, Over}
use Rattle.iris_shape.specs.declared.folding.Folded.{Folded, fold-Folded}
use Rattle.iris_shape.specs.declared.folding.Folded.TheOpen.{Folded-F}
use Rattle.iris_shape.specs.declared.heaping.Shape.{Shape, fold-Shape}
use Rattle.iris_shape.specs.declared.heaping.Shape.TheOpen.{Shape-F}

abbrev pub fold_step : Folded-F Fold → Fold
fold_step (Folded-F.One v) = One v
fold_step (Folded-F.Two a b) = Two a b

-- the fold that a value is
unfoldable pub unmade_fold : Folded → Fold
unmade_fold = fold-Folded Fold fold_step

abbrev pub shape_step : Shape-F (Treap ℕ) → Treap ℕ
shape_step Shape-F.Empty = Empty
shape_step (Shape-F.Over row less more) = Over row less more

-- the treap of places that a shape is
unfoldable pub unmade_treap : Shape → Treap ℕ
unmade_treap = fold-Shape (Treap ℕ) shape_step
