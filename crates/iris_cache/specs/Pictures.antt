-- When a cache, alone or with a draft over it, pictures a table.
use Rattle.std.specs.Prelude.{◌≡◌, ◌⊎◌, Option, Some, None, IsSome, IsSomeAnd, true}
use Rattle.std.specs.Option.{option_map}
use Rattle.iris_name.specs.declared.name.FileId.{FileId}
use Rattle.iris_name.specs.declared.name.Hash32.{Hash32}
use Rattle.iris_name.specs.declared.name.Name.{Name}
use Rattle.iris_name.specs.declared.name.Name.TheVariants as name
use Rattle.iris_node.specs.declared.node.Side.{Side}
use Rattle.iris_node.specs.declared.node.Side.TheVariants.{Fold, Below}
use Rattle.iris_node.specs.declared.node.Link.{Link}
use Rattle.iris_node.specs.declared.node.Body.{Body}
use Rattle.iris_node.specs.declared.node.Body.TheVariants.{Dir, File}
use Rattle.iris_node.specs.declared.node.Node.{Node}
use Rattle.iris_node.specs.declared.node.Node.TheVariants.{Entry, Part}
use Rattle.iris_node.specs.Trees.{Shown, IsNodeName, IsParent}
use Rattle.iris_node.specs.Unfolded.{Unfolded, hash, node_of}
use Rattle.iris_node.specs.Local.{local, local_of}
use Rattle.iris_cache.specs.declared.held.Held.{Held}
use Rattle.iris_cache.specs.declared.draft.Change.{Change}
use Rattle.iris_cache.specs.Rehash.{top_part, low_part, high_part}
use Rattle.iris_cache.specs.Resident.{Resident, held_node, parent_in}
use Rattle.iris_cache.specs.Drafted.{Drafted, drafted, known, seen}

-- a link holds this hash of this name
abbrev pub LinkHolds : Option Link → Name → Hash32 → Type 0
LinkHolds None n x = ⊥
LinkHolds (Some l) n x = (n ≡ name.Entry l.id) × (x ≡ l.hash)

-- a side whose part has the first name holds this hash of the second
abbrev pub SideHolds : Name → Side → Name → Hash32 → Type 0
SideHolds part (Fold version) n x = ⊥
SideHolds part (Below h) n x = (n ≡ part) × (x ≡ h)

-- what an entry of this id says of its directory or file holds this hash of this name
abbrev pub BodyHolds : FileId → Body → Name → Hash32 → Type 0
BodyHolds id (Dir top) n x = LinkHolds top n x
BodyHolds id (File size counter versions) n x = SideHolds (top_part id) versions n x

-- a node holds this hash of this child
abbrev pub Holds : Node → Name → Hash32 → Type 0
Holds (Entry e) n x = LinkHolds e.left n x ⊎ (LinkHolds e.right n x ⊎ BodyHolds e.id e.body n x)
Holds (Part p) n x = SideHolds (low_part p) p.low n x ⊎ SideHolds (high_part p) p.high n x

-- a name isn't resident, or is settled
abbrev pub IsSettled : Option Held → Type 0
IsSettled None = Unit {0}
IsSettled (Some h) = h.settled ≡ true

-- where the name is live, this is the hash of its record
abbrev pub IsHashOf : Option Unfolded → Hash32 → Type 0
IsHashOf o x = (u : Unfolded) → o ≡ Some u → option_map hash (node_of u) ≡ Some x

-- where a node and the one above it are resident, that one holds this hash of it
abbrev pub IsHeldHash : Resident → Name → Hash32 → Type 0
IsHeldHash c n x = (h g : Held) (p : Name) → held_node c n ≡ Some h → h.parent ≡ Some p → held_node c p ≡ Some g → Holds g.node n x

-- a hash of a name was its true one before, where it is absent or settled, and is the one that its resident parent holds
abbrev pub WasHash : Shown → Resident → Name → Hash32 → Type 0
WasHash old c n x = (IsSettled (held_node c n) → IsHashOf (old n) x) × IsHeldHash c n x

-- it is live, and the node says by itself what it stands for
abbrev pub IsLike : Option Unfolded → Node → Type 0
IsLike o node = IsSomeAnd o (λ u. local u ≡ Some (local_of node))

-- A cache pictures a table.
pub record Pictures (t : Shown) (c : Resident) : Type 0 where
  -- each resident node is the table's, but for hashes
  pub nodes : (n : Name) (h : Held) → held_node c n ≡ Some h → IsLike (t n) h.node
  -- a hash that is held of an absent or a settled child is its true one
  pub hashes : (n m : Name) (h : Held) (x : Hash32) → held_node c n ≡ Some h → Holds h.node m x → IsSettled (held_node c m) → IsHashOf (t m) x
  -- the parent of a resident node is resident, and is its parent in the table
  pub parents : (n p : Name) (h : Held) → held_node c n ≡ Some h → IsParent t p n → (h.parent ≡ Some p) × IsSome (held_node c p)
  pub tied : (n p : Name) (h : Held) → held_node c n ≡ Some h → h.parent ≡ Some p → IsParent t p n
  -- the parent of an unsettled node is unsettled
  pub rising : (n p : Name) (h g : Held) → held_node c n ≡ Some h → h.parent ≡ Some p → held_node c p ≡ Some g → g.settled ≡ true → h.settled ≡ true

abbrev pub parent_by : Option Change → Option Held → Option Name
parent_by (Some change) h = change.parent
parent_by None h = parent_in h

-- the parent of a name with the changes made
abbrev pub parent_after : Drafted → Resident → Name → Option Name
parent_after d c n = parent_by (drafted d n) (held_node c n)

-- A subtree that was taken out of the tree (detached), so that its topmost entry is no node: that entry's name, and the name of the node directly below it.
pub record Detached : Type 0 where
  pub entry : Name
  pub below : Option Name

-- the second name is that of the node directly below the detached entry, if there is one, and the first is the entry's
abbrev pub IsBelowDetached : Option Detached → Name → Name → Type 0
IsBelowDetached None p n = ⊥
IsBelowDetached (Some x) p n = (p ≡ x.entry) × (x.below ≡ Some n)

-- the detached entry, if there is one, is no node
abbrev pub IsNoNode : Option Detached → Shown → Type 0
IsNoNode None t = Unit {0}
IsNoNode (Some x) t = t x.entry ≡ None

-- A cache pictures the table before, and with a draft over it the table after, beside which a detached subtree may stand.
pub record DraftsBeside (old new : Shown) (detached : Option Detached) (d : Drafted) (c : Resident) : Type 0 where
  -- the cache alone pictures the table before
  pub before : Pictures old c
  -- each node that is seen is the new table's, but for hashes
  pub nodes : (n : Name) (node : Node) → seen d c n ≡ Some node → IsLike (new n) node
  -- a hash that is held of a child was its true one before, or is the one that its resident parent holds
  pub hashes : (n m : Name) (node : Node) (x : Hash32) → seen d c n ≡ Some node → Holds node m x → WasHash old c m x
  -- the parent of a node that is seen is seen, and is its parent in the new table
  pub parents : (n p : Name) (node : Node) → seen d c n ≡ Some node → IsParent new p n → (parent_after d c n ≡ Some p) × IsSome (seen d c p)
  -- a node that is seen hangs from its parent, or from the detached entry
  pub tied : (n p : Name) (node : Node) → seen d c n ≡ Some node → parent_after d c n ≡ Some p → IsParent new p n ⊎ IsBelowDetached detached p n
  pub hangs : (n p : Name) (node : Node) → seen d c n ≡ Some node → IsBelowDetached detached p n → parent_after d c n ≡ Some p
  -- a node that was taken away isn't live
  pub gone : (n : Name) → IsNodeName n → known d c n ≡ Some None → new n ≡ None
  -- a node that neither draft nor cache has stands for the same in both tables
  pub away : (n : Name) → IsNodeName n → known d c n ≡ None → new n ≡ old n
  -- a name that the draft changes is resident, or wasn't live before
  pub resident : (n : Name) (change : Change) → drafted d n ≡ Some change → IsSome (held_node c n) ⊎ (old n ≡ None)
  pub out : IsNoNode detached new

-- A cache pictures the table before, and with a draft over it the table after; nothing is detached.
abbrev pub Drafts : Shown → Shown → Drafted → Resident → Type 0
Drafts old new d c = DraftsBeside old new None d c
