-- Trees of nodes: which node stands above which, and what each name of a tree stands for.
use Rattle.std.specs.Prelude.{◌≡◌, ◌⊎◌, Option, Some, None}
use Rattle.iris_name.specs.declared.name.Name.{Name}
use Rattle.iris_name.specs.declared.name.Name.TheVariants.{Entry, Part, Block}
use Rattle.iris_node.specs.Local.{Local, local}
use Rattle.iris_node.specs.Unfolded.{Unfolded, Absent, Folder, Leaf, Even, Split, Stored, id_of}

-- what each name stands for, none where it isn't live
abbrev pub Shown : Type 0
Shown = Name → Option Unfolded

-- the name of an entry or a part
abbrev pub node_name : Unfolded → Option Name
node_name (Folder id name less more inside) = Some (Entry (id_of id))
node_name (Leaf id name less more size counter versions) = Some (Entry (id_of id))
node_name (Split file level index low high) = Some (Part (id_of file) level index)
node_name Absent = None
node_name (Even version) = None
node_name (Stored version bytes) = None

-- a name of an entry or a part
abbrev pub IsNodeName : Name → Type 0
IsNodeName (Entry id) = Unit {0}
IsNodeName (Part file level index) = Unit {0}
IsNodeName (Block file place) = ⊥

-- what stands for a name says by itself
abbrev pub said : Option Unfolded → Option Local
said None = None
said (Some u) = local u

-- the fact for the name of each node at and below an unfolded node
abbrev pub AllNodes : (Name → Type 0) → Unfolded → Type 0
AllNodes P (Folder id name less more inside) = P (Entry (id_of id)) × AllNodes P less × AllNodes P more × AllNodes P inside
AllNodes P (Leaf id name less more size counter versions) = P (Entry (id_of id)) × AllNodes P less × AllNodes P more × AllNodes P versions
AllNodes P (Split file level index low high) = P (Part (id_of file) level index) × AllNodes P low × AllNodes P high
AllNodes P Absent = Unit {0}
AllNodes P (Even version) = Unit {0}
AllNodes P (Stored version bytes) = Unit {0}

-- the same where something stands
abbrev pub AllShown : (Name → Type 0) → Option Unfolded → Type 0
AllShown P None = Unit {0}
AllShown P (Some u) = AllNodes P u

-- two trees say the same of a name
abbrev pub IsSaidAlike : Shown → Shown → Name → Type 0
IsSaidAlike t s n = said (t n) ≡ said (s n)

-- the first stands directly above the second
abbrev pub IsAbove : Unfolded → Unfolded → Type 0
IsAbove (Folder id name less more inside) u = (u ≡ less) ⊎ ((u ≡ more) ⊎ (u ≡ inside))
IsAbove (Leaf id name less more size counter versions) u = (u ≡ less) ⊎ ((u ≡ more) ⊎ (u ≡ versions))
IsAbove (Split file level index low high) u = (u ≡ low) ⊎ (u ≡ high)
IsAbove Absent u = ⊥
IsAbove (Even version) u = ⊥
IsAbove (Stored version bytes) u = ⊥

-- the first is the name of the parent of the second
pub record IsParent (t : Shown) (p n : Name) : Type 0 where
  pub parent : Unfolded
  pub child : Unfolded
  pub live : t p ≡ Some parent
  pub above : IsAbove parent child
  pub named : node_name child ≡ Some n

-- each node stands under its own name, with all below it, and below one parent
pub record IsTree (t : Shown) : Type 0 where
  -- an entry or a part stands under its own name alone
  pub own : (n m : Name) (u : Unfolded) → t n ≡ Some u → node_name u ≡ Some m → m ≡ n
  -- what stands below a live node is live
  pub below : (p n : Name) (u w : Unfolded) → t p ≡ Some u → IsAbove u w → node_name w ≡ Some n → t n ≡ Some w
  -- a node has one parent
  pub once : (n p q : Name) → IsParent t p n → IsParent t q n → p ≡ q

-- the name of the visible root, or of the trash
abbrev pub IsRootName : Name → Type 0
IsRootName n = (n ≡ Entry (id_of 0)) ⊎ (n ≡ Entry (id_of 1))
