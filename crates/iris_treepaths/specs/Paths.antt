-- Paths down a treap of rows, with the treap at their end: a zipper.
use Rattle.std.specs.Prelude.{◌≡◌, ◌≢◌, ℕ, Bool, false, cond, List, [], ◌∷◌}
use Rattle.iris_name.specs.declared.name.Name.{Name}
use Rattle.iris_name.specs.declared.name.Name.TheVariants as name
use Rattle.iris_node.specs.Unfolded.{id_of}
use Rattle.iris_shape.specs.Treap.{Treap, Empty, Over, Every, near}
use Rattle.iris_treepaths.specs.Rows.{Row}
use Rattle.iris_treepaths.specs.Ways.{Any, along, is_row_before, has_name}

-- a row met on a way down, the treap on its other side, and whether the way goes on to greater names
pub record Frame : Type 0 where
  pub row : Row
  pub other : Treap Row
  pub right : Bool

-- the row of a frame over a treap
abbrev pub framed : Frame → Treap Row → Treap Row
framed f t = cond f.right (Over f.row f.other t) (Over f.row t f.other)

-- a treap put back under a path, whose last frame is the parent's
abbrev pub plug : List Frame → Treap Row → Treap Row
plug [] t = t
plug (f ∷ fs) t = framed f (plug fs t)

-- the name of a row's entry
abbrev pub entry_name : Row → Name
entry_name r = name.Entry (id_of r.id)

-- the entry above the end of a path from p
abbrev pub above : Name → List Frame → Name
above p [] = p
above p (f ∷ fs) = above (entry_name f.row) fs

-- the path goes on towards a name that the row doesn't have
abbrev pub PassesBy : List ℕ → Frame → Type 0
PassesBy n f = (f.right ≡ is_row_before n f.row) × (has_name n f.row ≡ false)

-- a row is one of these
abbrev pub IsAmong : Row → List Row → Type 0
IsAmong r rows = Any (λ z. z ≡ r) rows

-- the rows met on going down towards a name
abbrev pub met_along : List ℕ → Treap Row → List Row
met_along n t = along (is_row_before n) (has_name n) t

-- the rows met on going down to a name, and from its row to its neighbours
abbrev pub met_near : List ℕ → Treap Row → List Row
met_near n t = near (is_row_before n) (has_name n) t

-- a name is that of none of a treap's rows
abbrev pub Outside : Name → Treap Row → Type 0
Outside n t = Every (λ y. n ≢ entry_name y) t

-- each row's name stands once
abbrev pub Once : Treap Row → Type 0
Once Empty = Unit {0}
Once (Over y l m) = Outside (entry_name y) l × Outside (entry_name y) m × Every (λ z. Outside (entry_name z) m) l × Once l × Once m
