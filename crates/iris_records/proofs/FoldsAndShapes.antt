-- The program's folds and shapes, taken apart.
use Rattle.std.proofs.Common.{◌≡◌, ℕ, ap, ◌∙◌}
use Rattle.iris_shape.specs.Folds.{Fold, One, Two}
use Rattle.iris_shape.specs.Made.{made_fold}
use Rattle.iris_shape.specs.Treap.{Treap, Empty, Over}
use Rattle.iris_shape.specs.Shaped.{made_treap}
use Rattle.iris_shape.specs.declared.folding.Folded.{Folded, fold-roll-Folded}
use Rattle.iris_shape.specs.declared.folding.Folded as folded
use Rattle.iris_shape.specs.declared.folding.Folded.TheOpen.{Folded-F}
use Rattle.iris_shape.specs.declared.heaping.Shape.{Shape, fold-roll-Shape}
use Rattle.iris_shape.specs.declared.heaping.Shape as shape
use Rattle.iris_shape.specs.declared.heaping.Shape.TheOpen.{Shape-F}
use Rattle.iris_records.specs.Unmade.{fold_step, unmade_fold, shape_step, unmade_treap}

pub unmade_two : (a b : Folded) → unmade_fold (folded.Two a b) ≡ Two (unmade_fold a) (unmade_fold b)
unfolding unmade_fold folded.roll-Folded denote.Hole.Carrier.roll
unmade_two a b = fold-roll-Folded Fold fold_step (Folded-F.Two a b)

pub unmade_one : (n : ℕ) → unmade_fold (folded.One n) ≡ One n
unfolding unmade_fold folded.roll-Folded denote.Hole.Carrier.roll
unmade_one n = fold-roll-Folded Fold fold_step (Folded-F.One n)

pub unmade_made_fold : (f : Fold) → unmade_fold (made_fold f) ≡ f
unmade_made_fold (One v) = unmade_one v
unmade_made_fold (Two x y) = unmade_two (made_fold x) (made_fold y) ∙ ap (λ z. Two z (unmade_fold (made_fold y))) (unmade_made_fold x) ∙ ap (λ z. Two x z) (unmade_made_fold y)

pub unmade_over : (r : ℕ) (a b : Shape) → unmade_treap (shape.Over r a b) ≡ Over r (unmade_treap a) (unmade_treap b)
unfolding unmade_treap shape.roll-Shape denote.Hole.Carrier.roll
unmade_over r a b = fold-roll-Shape (Treap ℕ) shape_step (Shape-F.Over r a b)

pub unmade_empty : unmade_treap shape.Empty ≡ Empty
unfolding unmade_treap shape.roll-Shape denote.Hole.Carrier.roll
unmade_empty = fold-roll-Shape (Treap ℕ) shape_step Shape-F.Empty

pub unmade_made_treap : (t : Treap ℕ) → unmade_treap (made_treap t) ≡ t
unmade_made_treap Empty = unmade_empty
unmade_made_treap (Over r a b) = unmade_over r (made_treap a) (made_treap b) ∙ ap (λ z. Over r z (unmade_treap (made_treap b))) (unmade_made_treap a) ∙ ap (λ z. Over r a z) (unmade_made_treap b)
