-- Counts of blocks that links hold, set anew.
use Rattle.std.specs.Prelude.{◌≡◌, ◌+◌, ◌/◌, ◌<◌, ◌^◌, false, ℕ, IsSome, if◌then◌else◌, Option, Some, None}
use Rattle.iris_name.specs.Names.{same_name}
use Rattle.iris_name.specs.declared.name.Name.{Name}
use Rattle.iris_name.specs.declared.name.Name.TheVariants as name
use Rattle.iris_node.specs.declared.node.Link.{Link}
use Rattle.iris_node.specs.declared.node.Body.{Body}
use Rattle.iris_node.specs.declared.node.Body.TheVariants.{Dir, File}
use Rattle.iris_node.specs.declared.node.Node.{Node}
use Rattle.iris_node.specs.declared.node.Node.TheVariants.{Entry, Part}
use Rattle.iris_node.specs.Fields.{EntryFields}
use Rattle.iris_node.specs.Local.{Lead, Local, FolderAt, LeafAt, SplitAt, local_of}
use Rattle.iris_node.specs.Unfolded.{Unfolded, id_of, blocks}
use Rattle.iris_cache.specs.Resident.{Resident}
use Rattle.iris_cache.specs.Drafted.{Drafted, drafted, seen}
use Rattle.iris_cache.specs.Pictures.{parent_after}

-- how many blocks lie at and below what stands for a name
abbrev pub count_of : Option Unfolded → ℕ
count_of None = 0
count_of (Some u) = blocks u

-- the name of an entry
abbrev pub IsEntryName : Name → Type 0
IsEntryName (name.Entry id) = Unit {0}
IsEntryName (name.Part file level index) = ⊥
IsEntryName (name.Block file place) = ⊥

abbrev pub lead_count : Option Lead → ℕ
lead_count None = 0
lead_count (Some l) = l.blocks

-- how many blocks a node says lie at and below it
abbrev pub said_count : Local → ℕ
said_count (FolderAt id label less more inside) = lead_count less + (lead_count inside + lead_count more)
said_count (LeafAt id label less more size counter even) = lead_count less + ((size + 4095) / 4096 + lead_count more)
said_count (SplitAt file level index low high) = 0

-- a lead, with k blocks where it leads to n
abbrev pub counted_lead : Name → ℕ → Option Lead → Option Lead
counted_lead n k None = None
counted_lead n k (Some l) = Some (record { id = l.id; blocks = if same_name (name.Entry (id_of l.id)) n then k else l.blocks })

-- what a node says by itself, with k blocks in each lead to n
abbrev pub with_blocks : Name → ℕ → Local → Local
with_blocks n k (FolderAt id label less more inside) = FolderAt id label (counted_lead n k less) (counted_lead n k more) (counted_lead n k inside)
with_blocks n k (LeafAt id label less more size counter even) = LeafAt id label (counted_lead n k less) (counted_lead n k more) size counter even
with_blocks n k (SplitAt file level index low high) = SplitAt file level index low high

-- a link, with k blocks where it leads to n
abbrev pub counted_link : Name → ℕ → Option Link → Option Link
counted_link n k None = None
counted_link n k (Some l) = Some (record { id = l.id; hash = l.hash; blocks = if same_name (name.Entry l.id) n then k else l.blocks })

-- what an entry says of its directory or file, with k blocks where a link leads to n
abbrev pub counted_body : Name → ℕ → Body → Body
counted_body n k (Dir top) = Dir (counted_link n k top)
counted_body n k (File size counter versions) = File size counter versions

-- an entry, with k blocks in each link to n
abbrev pub counted_entry : Name → ℕ → EntryFields → EntryFields
counted_entry n k e = record { id = e.id; name = e.name; left = counted_link n k e.left; right = counted_link n k e.right; body = counted_body n k e.body }

-- a node, with k blocks in each link to n
abbrev pub counted_node : Name → ℕ → Node → Node
counted_node n k (Entry e) = Entry (counted_entry n k e)
counted_node n k (Part p) = Part p

-- In the parent of a child the count of the child is set right, and nothing else is changed.
pub record Recounts (child parent : Name) (d e : Drafted) (c : Resident) : Type 0 where
  pub counted_so : (k node : Node) → seen d c child ≡ Some k → said_count (local_of k) < 2 ^ 64 → seen d c parent ≡ Some node → seen e c parent ≡ Some (counted_node child (said_count (local_of k)) node)
  pub parents : (n : Name) → parent_after e c n ≡ parent_after d c n
  pub stays : (n : Name) → IsSome (seen d c n) → IsSome (seen e c n)
  pub others : (n : Name) → same_name parent n ≡ false → drafted e n ≡ drafted d n
  pub entries : (n : Name) → (IsEntryName n → ⊥) → drafted e n ≡ drafted d n

-- the parent's node has the count of the child already
abbrev pub HasChildCount : Name → Name → Drafted → Resident → Type 0
HasChildCount child parent d c = (k node : Node) → seen d c child ≡ Some k → said_count (local_of k) < 2 ^ 64 → seen d c parent ≡ Some node → counted_node child (said_count (local_of k)) node ≡ node
