-- What a node of a treap says by itself: its row, and the rows to which its links lead.
use Rattle.std.specs.Prelude.{Bool, cond, Option, Some, None}
use Rattle.iris_shape.specs.Treap.{Treap, Empty, Over}

-- the row at the top, if there is one
abbrev pub top : {A : Type 0} → Treap A → Option A
top Empty = None
top (Over y l m) = Some y

-- what a node says: its row, and the rows to which its links to lesser and to greater names lead
pub record RowLinks (A : Type 0) : Type 0 where
  pub row : A
  pub less : Option A
  pub more : Option A

-- the first that is there
abbrev pub either : {A : Type 0} → Option A → Option A → Option A
either None b = b
either (Some x) b = Some x

-- the node of a row for which the test holds
abbrev pub found : {A : Type 0} → (A → Bool) → Treap A → Option (RowLinks A)
found g Empty = None
found g (Over y l m) = cond (g y) (Some (record { row = y; less = top l; more = top m })) (either (found g l) (found g m))
