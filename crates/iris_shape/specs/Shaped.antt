-- Treaps as the program's values, and the rows whose lesser sides are open while a treap is built from the right.
use Rattle.std.specs.Prelude.{◌≡◌, ℕ, Bool, true, false, List, [], ◌∷◌, ◌++◌, map}
use Rattle.iris_shape.specs.Treap.{Treap, Empty, Over, Each}
use Rattle.iris_shape.specs.declared.heaping.Shape.{Shape}
use Rattle.iris_shape.specs.declared.heaping.Shape as shape
use Rattle.iris_shape.specs.declared.heaping.Half.{Half}

-- a treap of places as a shape
abbrev pub made_treap : Treap ℕ → Shape
made_treap Empty = shape.Empty
made_treap (Over row less more) = shape.Over row (made_treap less) (made_treap more)

-- an open row: its place, and the treap of the rows of greater names below it
abbrev pub made_half : ℕ × Treap ℕ → Half
made_half o = record { row = o.0; more = made_treap o.1 }

-- The treap that open rows hold, the topmost first: each is the lesser side of the one before.
abbrev pub spine : List (ℕ × Treap ℕ) → Treap ℕ
spine [] = Empty
spine (o ∷ os) = Over o.0 (spine os) o.1

-- open rows, of which the upper ones are left and the lower ones are closed
pub record Parted (all : List (ℕ × Treap ℕ)) (left : List Half) (below : Shape) : Type 0 where
  pub stay : List (ℕ × Treap ℕ)
  pub go : List (ℕ × Treap ℕ)
  pub parts : all ≡ stay ++ go
  pub left_is : left ≡ map made_half stay
  pub below_is : below ≡ made_treap (spine go)

-- those are closed that x stands above, and it doesn't stand above the last that is left
pub record Closes (up : ℕ → ℕ → Bool) (x : ℕ) (all : List (ℕ × Treap ℕ)) (left : List Half) (below : Shape) : Type 0 where
  pub parted : Parted all left below
  pub above : Each (λ o. up x o.0 ≡ true) parted.go
  pub last : (front : List (ℕ × Treap ℕ)) (o : ℕ × Treap ℕ) → parted.stay ≡ front ++ o ∷ [] → up x o.0 ≡ false
