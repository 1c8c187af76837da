-- The fold of a range of versions.
use Rattle.std.specs.Prelude.{◌≡◌, ◌==◌, ◌+◌, ◌*◌, ◌<◌, ◌^◌, ℕ, zero, suc, cond, List, length, slice_index}

-- how many versions a whole range has
abbrev pub IsPower : ℕ → Type 0
IsPower n = (level : ℕ) × (n ≡ 2 ^ level)

-- all versions are the first one
abbrev pub IsEven : List ℕ → Type 0
IsEven versions = (p : ℕ) → p < length versions → slice_index versions p ≡ slice_index versions 0

-- a range of one version, or of two halves
pub data Fold : Type 0 where
  One : ℕ → Fold
  Two : Fold → Fold → Fold

-- two halves as one range: one version where both are the same one
abbrev pub join : Fold → Fold → Fold
join (One a) (One b) = cond (a == b) (One a) (Two (One a) (One b))
join (One a) (Two x y) = Two (One a) (Two x y)
join (Two x y) z = Two (Two x y) z

-- The fold of the part of a level and an index, from scratch: of the places from index * 2 ^ level on, 2 ^ level of them.
unfoldable pub folded : (ℕ → ℕ) → ℕ → ℕ → Fold
folded v zero i = One (v i)
folded v (suc l) i = join (folded v l (2 * i)) (folded v l (2 * i + 1))
