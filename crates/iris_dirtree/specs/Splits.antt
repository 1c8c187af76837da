-- The seat of a row that is put in, and the split along its name of what stands below.
use Rattle.std.specs.Prelude.{◌≡◌, ◌||◌, ℕ, Bool, true, false, List, Option, is_some}
use Rattle.iris_name.specs.Names.{same_name}
use Rattle.iris_name.specs.declared.name.FileId.{FileId}
use Rattle.iris_name.specs.declared.name.Name.{Name}
use Rattle.iris_name.specs.declared.name.Name.TheVariants as name
use Rattle.iris_node.specs.declared.node.Link.{Link}
use Rattle.iris_node.specs.Trees.{Shown}
use Rattle.iris_shape.specs.Order.{beats}
use Rattle.iris_shape.specs.Treap.{Treap, Empty, Over, Each, low, high}
use Rattle.iris_cache.specs.Resident.{Resident}
use Rattle.iris_cache.specs.Drafted.{Drafted, seen}
use Rattle.iris_treepaths.specs.declared.paths.Crumb.{Crumb}
use Rattle.iris_treepaths.specs.Crumbs.{AreCrumbs}
use Rattle.iris_dirtree.specs.Descents.{StandsBelow, Walked}
use Rattle.iris_treepaths.specs.Paths.{Frame, plug, IsAmong, met_along}
use Rattle.iris_treepaths.specs.Rows.{Row}
use Rattle.iris_treepaths.specs.Ways.{is_row_before}

-- an id's entry is to stand above a treap
abbrev pub TopBelow : (ℕ → ℕ) → FileId → Treap Row → Type 0
TopBelow prio i Empty = Unit {0}
TopBelow prio i (Over y l m) = beats prio i.0 y.id ≡ true

-- The way down towards a name has come to where the entry of an id is to stand.
pub record SeatReached (prio : ℕ → ℕ) (i : FileId) (old new : Shown) (c : Resident) (lasts : Name → Bool) (d : Drafted) (p : Name) (n : List ℕ) (t : Treap Row) (kept : List Crumb) (link : Option Link) : Type 0 where
  pub walked : Walked old new c lasts d p n t kept link
  pub above : Each (λ f. beats prio i.0 f.row.id ≡ false) walked.front
  pub below : TopBelow prio i walked.rest

-- On the way down a treap that a name splits, crumbs were kept of the rows on either side, and a link leads on.
pub record Splitting (old new : Shown) (c : Resident) (home : Treap Row) (lasts : Name → Bool) (d : Drafted) (n : List ℕ) (t : Treap Row) (lows highs : List Crumb) (link : Option Link) : Type 0 where
  pub low_front : List Frame
  pub high_front : List Frame
  pub rest : Treap Row
  pub q : Name
  pub low_is : low (is_row_before n) t ≡ plug low_front (low (is_row_before n) rest)
  pub high_is : high (is_row_before n) t ≡ plug high_front (high (is_row_before n) rest)
  pub low_crumbs : AreCrumbs old c home lasts d low_front lows
  pub high_crumbs : AreCrumbs old c home lasts d high_front highs
  pub stands : StandsBelow old new c home lasts d q link rest
  pub met : (r : Row) → IsAmong r (met_along n rest) → IsAmong r (met_along n t)

-- The halves of a treap that a name splits are paths with nothing at their ends.
pub record IsSplit (old : Shown) (c : Resident) (home : Treap Row) (lasts : Name → Bool) (d : Drafted) (n : List ℕ) (t : Treap Row) (lows highs : List Crumb) : Type 0 where
  pub low_front : List Frame
  pub high_front : List Frame
  pub low_is : low (is_row_before n) t ≡ plug low_front Empty
  pub high_is : high (is_row_before n) t ≡ plug high_front Empty
  pub low_crumbs : AreCrumbs old c home lasts d low_front lows
  pub high_crumbs : AreCrumbs old c home lasts d high_front highs

-- a plan goes down a treap that a name splits, and meets these rows
pub record Splits (d : Drafted) (c : Resident) (n : List ℕ) (link : Option Link) (old new : Shown) (met : List Row) : Type 0 where
  pub t : Treap Row
  pub home : Treap Row
  pub lasts : Name → Bool
  pub q : Name
  pub stands : StandsBelow old new c home lasts d q link t
  pub among : (r : Row) → IsAmong r (met_along n t) → IsAmong r met

-- the names that are seen, and that of an entry that comes
abbrev pub seen_with : Drafted → Resident → FileId → Name → Bool
seen_with d c i n = same_name (name.Entry i) n || is_some (seen d c n)
