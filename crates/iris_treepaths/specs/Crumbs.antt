-- What is seen of a treap's rows, and the crumbs that a plan keeps on a path.
use Rattle.std.specs.Prelude.{◌≡◌, ◌≤◌, ◌⊎◌, Bool, true, List, [], ◌∷◌, Option, Some, None, IsSome}
use Rattle.iris_name.specs.declared.name.FileId.{FileId}
use Rattle.iris_name.specs.declared.name.Hash32.{Hash32}
use Rattle.iris_name.specs.declared.name.Name.{Name}
use Rattle.iris_node.specs.declared.node.Link.{Link}
use Rattle.iris_node.specs.declared.node.Node.{Node}
use Rattle.iris_node.specs.declared.node.Node.TheVariants as node
use Rattle.iris_node.specs.Local.{led, led_by}
use Rattle.iris_node.specs.Trees.{Shown}
use Rattle.iris_node.specs.Unfolded.{Unfolded}
use Rattle.iris_shape.specs.Treap.{Treap, Empty, Over, Each}
use Rattle.iris_cache.specs.Resident.{Resident}
use Rattle.iris_cache.specs.Drafted.{Drafted, drafted, seen}
use Rattle.iris_cache.specs.Pictures.{Holds, IsLike, LinkHolds, WasHash, parent_after}
use Rattle.iris_treepaths.specs.declared.paths.Crumb.{Crumb}
use Rattle.iris_treepaths.specs.Paths.{Frame, framed, plug, entry_name, above, Outside}
use Rattle.iris_treepaths.specs.Planted.{IsSubtreap}
use Rattle.iris_treepaths.specs.Rows.{Row, unfolded_rows, row_entry}

-- What is seen of an entry says what the entry says, and hangs from p. `lasts` tells which names are seen in the end.
pub record Seat (old : Shown) (c : Resident) (lasts : Name → Bool) (d : Drafted) (p n : Name) (u : Unfolded) (node : Node) : Type 0 where
  pub like : IsLike (Some u) node
  pub parent : parent_after d c n ≡ Some p
  pub there : lasts p ≡ true
  pub here : lasts n ≡ true
  pub hashes : (m : Name) (h : Hash32) → Holds node m h → WasHash old c m h

-- Each row of a treap that is seen has its seat there, the topmost below p; one that isn't stands over what it stood over in `home`.
abbrev pub Seated : Shown → Resident → Treap Row → (Name → Bool) → Drafted → Name → Treap Row → Type 0
Seated old c home lasts d p Empty = Unit {0}
Seated old c home lasts d p (Over y l m) =
    ((node : Node) → seen d c (entry_name y) ≡ Some node → Seat old c lasts d p (entry_name y) (row_entry y (unfolded_rows l) (unfolded_rows m)) node)
    × (seen d c (entry_name y) ≡ None → IsSubtreap (Over y l m) home) × Seated old c home lasts d (entry_name y) l × Seated old c home lasts d (entry_name y) m

-- a link leads to the top of a treap
pub record LeadsToTop (old : Shown) (c : Resident) (link : Option Link) (t : Treap Row) : Type 0 where
  pub led_is : led_by link ≡ led (unfolded_rows t)
  pub hash : (m : Name) (h : Hash32) → LinkHolds link m h → WasHash old c m h

-- a crumb is the seen node of a frame's row, with the hash by which it was reached
pub record IsCrumb (old : Shown) (c : Resident) (home : Treap Row) (lasts : Name → Bool) (d : Drafted) (f : Frame) (k : Crumb) : Type 0 where
  pub side : Treap Row
  pub right : k.right ≡ f.right
  pub sees : seen d c (entry_name f.row) ≡ Some (node.Entry k.node)
  pub like : IsLike (Some (unfolded_rows (framed f side))) (node.Entry k.node)
  pub here : lasts (entry_name f.row) ≡ true
  pub hashes : (m : Name) (h : Hash32) → Holds (node.Entry k.node) m h → WasHash old c m h
  pub reached : WasHash old c (entry_name f.row) k.hash
  pub other : Seated old c home lasts d (entry_name f.row) f.other

-- the crumbs of a path
abbrev pub AreCrumbs : Shown → Resident → Treap Row → (Name → Bool) → Drafted → List Frame → List Crumb → Type 0
AreCrumbs old c home lasts d [] [] = Unit {0}
AreCrumbs old c home lasts d [] (k ∷ ks) = ⊥
AreCrumbs old c home lasts d (f ∷ fs) [] = ⊥
AreCrumbs old c home lasts d (f ∷ fs) (k ∷ ks) = IsCrumb old c home lasts d f k × AreCrumbs old c home lasts d fs ks

-- the entry above the end of a path, by its crumbs
abbrev pub crumb_above : FileId → List Crumb → FileId
crumb_above dir [] = dir
crumb_above dir (k ∷ ks) = crumb_above k.node.id ks

-- no crumb is of a root
abbrev pub AreNamed : List Crumb → Type 0
AreNamed ks = Each (λ (k : Crumb). 2 ≤ k.node.id.0) ks

-- Of a treap u, the end of a path is set up in a draft and linked to, and the crumbs of the path are left.
pub record Rises (old : Shown) (c : Resident) (home : Treap Row) (lasts : Name → Bool) (d e : Drafted) (p : Name) (u : Treap Row) (left : List Crumb) (link : Option Link) : Type 0 where
  pub front : List Frame
  pub done : Treap Row
  pub is : u ≡ plug front done
  pub crumbs : AreCrumbs old c home lasts d front left
  pub leads : LeadsToTop old c link done
  pub seated : Seated old c home lasts e (above p front) done
  -- nothing else is changed, and only what is seen in the end
  pub off : (n : Name) → Outside n done → drafted e n ≡ drafted d n
  pub touched : (n : Name) → (drafted e n ≡ drafted d n) ⊎ (lasts n ≡ true)
  pub stays : (n : Name) → IsSome (seen d c n) → IsSome (seen e c n)
