-- The rows that are met on going down a directory's treap.
use Rattle.std.specs.Prelude.{◌≡◌, ◌≢◌, ◌⊎◌, ◌&&◌, ◌++◌, ℕ, Bool, not, cond, List, [], ◌∷◌, Option, Some, None, take}
use Rattle.iris_shape.specs.Order.{less_name}
use Rattle.iris_shape.specs.Treap.{Treap, Empty, Over, treap, skip, near, Each}
use Rattle.iris_treepaths.specs.Rows.{Row, up}

-- a row stands before a name
abbrev pub is_row_before : List ℕ → Row → Bool
is_row_before n r = less_name r.name n

-- a row has a name
abbrev pub has_name : List ℕ → Row → Bool
has_name n r = not (less_name r.name n) && not (less_name n r.name)

-- a row's name isn't greater than a name
abbrev pub up_to : List ℕ → Row → Bool
up_to n r = not (less_name n r.name)

-- one of the rows is so
abbrev pub Any : {A : Type 0} → (A → Type 0) → List A → Type 0
Any P [] = ⊥
Any P (y ∷ ys) = P y ⊎ Any P ys

-- the row of this id has the name, or none has it
abbrev pub IsNamed : List Row → List ℕ → Option ℕ → Type 0
IsNamed rows n None = Each (λ r. r.name ≢ n) rows
IsNamed rows n (Some id) = Any (λ r. (r.id ≡ id) × (r.name ≡ n)) rows

-- the rows met on going down towards a row, and that row; `p` tells which rows stand before it, and `e` which it is
abbrev pub along : {A : Type 0} → (A → Bool) → (A → Bool) → Treap A → List A
along p e Empty = []
along p e (Over y l m) = y ∷ cond (e y) [] (cond (p y) (along p e m) (along p e l))

-- the rows met on going down towards a name
abbrev pub along_name : List ℕ → List ℕ → List Row → List Row
along_name name key rows = along (is_row_before name) (has_name name) (treap (up key) rows)

-- the rows met on going down to a name, and from its row to its neighbours
abbrev pub near_name : List ℕ → List ℕ → List Row → List Row
near_name name key rows = near (is_row_before name) (has_name name) (treap (up key) rows)

-- at most so many rows of the next greater names
abbrev pub following : List ℕ → ℕ → List Row → List Row
following after most rows = take most (skip (up_to after) rows)

-- the rows met on going down towards each of these rows
abbrev pub along_each : List ℕ → List Row → List Row → List Row
along_each key rows [] = []
along_each key rows (r ∷ rs) = along_name r.name key rows ++ along_each key rows rs

-- the rows met on going down towards a name, and towards each row of the page that follows it
abbrev pub along_page : List ℕ → ℕ → List ℕ → List Row → List Row
along_page after most key rows = along_name after key rows ++ along_each key rows (following after most rows)
