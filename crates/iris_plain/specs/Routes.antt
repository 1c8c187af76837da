-- Paths as lists of names: the directory above, and which path lies at or below which.
use Rattle.std.specs.Prelude.{ℕ, ◌&&◌, List, [], ◌∷◌, Bool, true, false}
use Rattle.std.specs.Ordering.{nat_cmp, is_lt}
use Rattle.std.specs.Str.{bytes_eq}
use Rattle.std.specs.Cmp.Lexicographic.{slice_cmp}

-- the path of the directory above
abbrev pub parent : List (List ℕ) → List (List ℕ)
parent [] = []
parent (n ∷ []) = []
parent (n ∷ m ∷ ns) = n ∷ parent (m ∷ ns)

-- the last name of a path
abbrev pub last : List (List ℕ) → List ℕ
last [] = []
last (n ∷ []) = n
last (n ∷ m ∷ ns) = last (m ∷ ns)

-- the path of the root
abbrev pub is_top : List (List ℕ) → Bool
is_top [] = true
is_top (n ∷ ns) = false

-- the two paths are one
abbrev pub is_path : List (List ℕ) → List (List ℕ) → Bool
is_path [] [] = true
is_path [] (m ∷ q) = false
is_path (n ∷ ns) [] = false
is_path (n ∷ ns) (m ∷ q) = bytes_eq m n && is_path ns q

-- the second path is the first or lies below it
abbrev pub is_at_or_under : List (List ℕ) → List (List ℕ) → Bool
is_at_or_under [] q = true
is_at_or_under (n ∷ ns) [] = false
is_at_or_under (n ∷ ns) (m ∷ q) = bytes_eq m n && is_at_or_under ns q

-- the second path lies below the first
abbrev pub is_front : List (List ℕ) → List (List ℕ) → Bool
is_front [] [] = false
is_front [] (m ∷ ms) = true
is_front (n ∷ ns) [] = false
is_front (n ∷ ns) (m ∷ ms) = bytes_eq m n && is_front ns ms

-- what follows the first path in the second
abbrev pub rest : List (List ℕ) → List (List ℕ) → List (List ℕ)
rest [] q = q
rest (n ∷ ns) [] = []
rest (n ∷ ns) (m ∷ q) = rest ns q

-- the bytes of the first name come before those of the second
abbrev pub is_name_before : List ℕ → List ℕ → Bool
is_name_before a b = is_lt (slice_cmp nat_cmp a b)
