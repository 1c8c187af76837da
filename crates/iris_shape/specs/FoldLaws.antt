-- Laws of folds, in the form in which a caller holds a range of a version tree.
use Rattle.std.specs.Prelude.{◌≡◌, ◌≢◌, ◌&&◌, ◌⊎◌, ◌+◌, ◌*◌, ◌<◌, ◌≤◌, ◌^◌, ℕ, zero, suc, not, cond, nat_lt}
use Rattle.iris_shape.specs.Folds.{Fold, One, Two, folded}

-- a place lies under the part of a level and an index
pub record IsUnder (l i p : ℕ) : Type 0 where
  pub from : i * 2 ^ l ≤ p
  pub to : p < (i + 1) * 2 ^ l

-- not two folds of one version
abbrev pub Differ : Fold → Fold → Type 0
Differ (One v) (One w) = v ≢ w
Differ (One v) (Two x y) = Unit {0}
Differ (Two x y) other = Unit {0}

-- A fold of the part of a level and an index: one version that all its places have, or two halves that differ.
abbrev pub IsFoldOf : (ℕ → ℕ) → ℕ → ℕ → Fold → Type 0
IsFoldOf v l i (One w) = (p : ℕ) → IsUnder l i p → v p ≡ w
IsFoldOf v zero i (Two x y) = ⊥
IsFoldOf v (suc l) i (Two x y) = Differ x y × IsFoldOf v l (2 * i) x × IsFoldOf v l (2 * i + 1) y

-- each part has one fold, and `folded` is it
abbrev pub OneFold : Type 0
OneFold = (v : ℕ → ℕ) (l i : ℕ) → IsFoldOf v l i (folded v l i) × ((f : Fold) → IsFoldOf v l i f → f ≡ folded v l i)

-- a part above places is made of its two halves
abbrev pub FoldedHalves : Type 0
FoldedHalves = (v : ℕ → ℕ) (l i : ℕ) → (Differ (folded v l (2 * i)) (folded v l (2 * i + 1)) × (folded v (suc l) i ≡ Two (folded v l (2 * i)) (folded v l (2 * i + 1))))
    ⊎ ((w : ℕ) × (folded v l (2 * i) ≡ One w) × (folded v l (2 * i + 1) ≡ One w) × (folded v (suc l) i ≡ One w))

-- a fold of one version holds at each place under it
abbrev pub FoldedAt : Type 0
FoldedAt = (v : ℕ → ℕ) (l i w p : ℕ) → folded v l i ≡ One w → IsUnder l i p → v p ≡ w

-- versions that agree on a range fold alike there
abbrev pub FoldedSame : Type 0
FoldedSame = (v w : ℕ → ℕ) (l i : ℕ) → ((p : ℕ) → IsUnder l i p → v p ≡ w p) → folded v l i ≡ folded w l i

-- the versions with those from low on and below high put to w
unfoldable pub with_range_set : (ℕ → ℕ) → ℕ → ℕ → ℕ → ℕ → ℕ
with_range_set v low high w p = cond (not (nat_lt p low) && nat_lt p high) w (v p)

-- a part whose places all lie outside the range that is changed stays
abbrev pub FoldedOutside : Type 0
FoldedOutside = (v : ℕ → ℕ) (low high w l i : ℕ) → ((p : ℕ) → IsUnder l i p → low ≤ p → p < high → ⊥) → folded (with_range_set v low high w) l i ≡ folded v l i

-- a part whose places all lie inside it folds to the new version, and so does every part below
abbrev pub FoldedInside : Type 0
FoldedInside = (v : ℕ → ℕ) (low high w l i : ℕ) → ((p : ℕ) → IsUnder l i p → (low ≤ p) × (p < high)) → folded (with_range_set v low high w) l i ≡ One w
