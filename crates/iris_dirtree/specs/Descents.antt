-- How far a plan has come down towards a name, and why it stops there.
use Rattle.std.specs.Prelude.{◌≡◌, ℕ, Bool, true, List, Option, Some, None}
use Rattle.iris_name.specs.declared.name.Name.{Name}
use Rattle.iris_name.specs.declared.name.Name.TheVariants as name
use Rattle.iris_name.specs.declared.note.Expect.TheVariants.{Hash}
use Rattle.iris_node.specs.declared.node.Link.{Link}
use Rattle.iris_node.specs.declared.node.Node.TheVariants as node
use Rattle.iris_node.specs.Fields.{EntryFields}
use Rattle.iris_node.specs.Trees.{Shown}
use Rattle.iris_shape.specs.Treap.{Treap, Empty, Over, Each}
use Rattle.iris_cache.specs.declared.held.Short.{Short}
use Rattle.iris_cache.specs.declared.held.Short.TheVariants.{Need, NoMemory}
use Rattle.iris_cache.specs.Resident.{Resident}
use Rattle.iris_cache.specs.Drafted.{Drafted, known, seen}
use Rattle.iris_treepaths.specs.declared.paths.Crumb.{Crumb}
use Rattle.iris_treepaths.specs.Crumbs.{Seat, Seated, LeadsToTop, AreCrumbs}
use Rattle.iris_cache.specs.Needs.{IsWanted}
use Rattle.iris_treepaths.specs.Paths.{Frame, plug, entry_name, above, PassesBy}
use Rattle.iris_treepaths.specs.Rows.{Row, unfolded_rows, row_entry}
use Rattle.iris_treepaths.specs.Ways.{Any, has_name}

-- where the entry to which a link leads is missing, it is wanted
abbrev pub IsWantedLink : Shown → Shown → Resident → Drafted → Option Link → Type 0
IsWantedLink old new c d None = Unit {0}
IsWantedLink old new c d (Some k) = known d c (name.Entry k.id) ≡ None → IsWanted old new c (name.Entry k.id) (Hash k.hash)

-- so it is below each row of a treap that is seen
abbrev pub WantsBelow : Shown → Shown → Resident → Drafted → Treap Row → Type 0
WantsBelow old new c d Empty = Unit {0}
WantsBelow old new c d (Over y l m) =
    ((e : EntryFields) → seen d c (entry_name y) ≡ Some (node.Entry e) → IsWantedLink old new c d e.left × IsWantedLink old new c d e.right)
    × WantsBelow old new c d l × WantsBelow old new c d m

-- a link leads to a treap in its place below q
pub record StandsBelow (old new : Shown) (c : Resident) (home : Treap Row) (lasts : Name → Bool) (d : Drafted) (q : Name) (link : Option Link) (w : Treap Row) : Type 0 where
  pub leads : LeadsToTop old c link w
  pub wanted : IsWantedLink old new c d link
  pub below : WantsBelow old new c d w
  pub seated : Seated old c home lasts d q w

-- On the way down a treap towards a name, crumbs were kept of the rows met, and a link leads on.
pub record Walked (old new : Shown) (c : Resident) (lasts : Name → Bool) (d : Drafted) (p : Name) (n : List ℕ) (t : Treap Row) (kept : List Crumb) (link : Option Link) : Type 0 where
  pub front : List Frame
  pub rest : Treap Row
  pub is : t ≡ plug front rest
  pub passed : Each (PassesBy n) front
  pub crumbs : AreCrumbs old c t lasts d front kept
  pub stands : StandsBelow old new c t lasts d (above p front) link rest

-- The row of the name is found at the end of the way.
pub record FoundRow (old new : Shown) (c : Resident) (lasts : Name → Bool) (d : Drafted) (p : Name) (n : List ℕ) (t : Treap Row) (kept : List Crumb) (e : EntryFields) : Type 0 where
  pub front : List Frame
  pub row : Row
  pub less : Treap Row
  pub more : Treap Row
  pub is : t ≡ plug front (Over row less more)
  pub passed : Each (PassesBy n) front
  pub crumbs : AreCrumbs old c t lasts d front kept
  pub named : has_name n row ≡ true
  pub sees : seen d c (entry_name row) ≡ Some (node.Entry e)
  pub seat : Seat old c lasts d (above p front) (entry_name row) (row_entry row (unfolded_rows less) (unfolded_rows more)) (node.Entry e)
  pub left : StandsBelow old new c t lasts d (entry_name row) e.left less
  pub right : StandsBelow old new c t lasts d (entry_name row) e.right more

-- a missing name is wanted in each two tables of which something is pictured, and is that of a row that is met
abbrev pub IsStop : (Shown → Shown → List Row → Type 0) → Drafted → Resident → Short → Type 0
IsStop pictured d c (Need n x) = (known d c n ≡ None) × ((old new : Shown) (met : List Row) → pictured old new met → Any (λ (r : Row). n ≡ entry_name r) met × IsWanted old new c n x)
IsStop pictured d c NoMemory = Unit {0}

-- a plan goes down a treap, and meets these of its rows
pub record Walks (meets : Treap Row → List Row) (d : Drafted) (c : Resident) (link : Option Link) (old new : Shown) (met : List Row) : Type 0 where
  pub t : Treap Row
  pub lasts : Name → Bool
  pub p : Name
  pub stands : StandsBelow old new c t lasts d p link t
  pub met_is : met ≡ meets t
