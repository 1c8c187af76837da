-- Words on the nodes of a directory's rows.
use Rattle.std.specs.Prelude.{◌≡◌, ◌⊎◌, ◌<◌, ◌+◌, ◌/◌, ◌^◌, ℕ, Bool, true, false, Option, Some, None, if◌then◌else◌}
use Rattle.iris_name.specs.Names.{same_name}
use Rattle.iris_name.specs.declared.name.FileId.{FileId}
use Rattle.iris_name.specs.declared.name.Hash32.{Hash32}
use Rattle.iris_name.specs.declared.name.Name.{Name}
use Rattle.iris_name.specs.declared.name.Name.TheVariants as name
use Rattle.iris_name.specs.declared.note.Expect.TheVariants.{Hash}
use Rattle.iris_node.specs.declared.node.Body.{Body}
use Rattle.iris_node.specs.declared.node.Body.TheVariants.{Dir, File}
use Rattle.iris_node.specs.declared.node.Link.{Link}
use Rattle.iris_node.specs.declared.node.Node.{Node}
use Rattle.iris_node.specs.declared.node.Node.TheVariants as node
use Rattle.iris_node.specs.Fields.{EntryFields}
use Rattle.iris_cache.specs.declared.held.Short.{Short}
use Rattle.iris_cache.specs.declared.held.Short.TheVariants.{Need, NoMemory}
use Rattle.iris_cache.specs.Resident.{Resident}
use Rattle.iris_cache.specs.Pictures.{Holds}
use Rattle.iris_cache.specs.Drafted.{Drafted, drafted, known, set_to}
use Rattle.iris_node.specs.Unfolded.{link_blocks}

-- the link to the entries of greater names, or to those of lesser ones
abbrev pub link_toward : Bool → EntryFields → Option Link
link_toward true e = e.right
link_toward false e = e.left

-- an entry with another link on that side
abbrev pub turned : Bool → Option Link → EntryFields → EntryFields
turned true k e = record { id = e.id; name = e.name; left = e.left; right = k; body = e.body }
turned false k e = record { id = e.id; name = e.name; left = k; right = e.right; body = e.body }

-- an entry with these links beside it
abbrev pub between : Option Link → Option Link → EntryFields → EntryFields
between low high e = record { id = e.id; name = e.name; left = low; right = high; body = e.body }

-- the blocks of a file, or those inside a directory
abbrev pub own_blocks : Body → ℕ
own_blocks (Dir top) = link_blocks top
own_blocks (File size counter versions) = (size + 4095) / 4096

-- the blocks at and below an entry
abbrev pub node_blocks : EntryFields → ℕ
node_blocks e = link_blocks e.left + (own_blocks e.body + link_blocks e.right)

-- a link to an entry, with a hash of it; where the blocks have 64 bits, with their count
pub record LinksTo (e : EntryFields) (h : Hash32) (l : Link) : Type 0 where
  pub id : l.id ≡ e.id
  pub hash : l.hash ≡ h
  pub blocks : node_blocks e < 2 ^ 64 → l.blocks ≡ node_blocks e

abbrev pub body_top : Body → Option (Option Link)
body_top (Dir top) = Some top
body_top (File size counter versions) = None

-- the link inside a directory, if it is one
abbrev pub dir_top : Option Node → Option (Option Link)
dir_top None = None
dir_top (Some (node.Part p)) = None
dir_top (Some (node.Entry e)) = body_top e.body

-- why the entry to which a link leads isn't read: it is missing, or there is no such entry
abbrev pub IsLinkLack : Drafted → Resident → Link → Short → Type 0
IsLinkLack d c l (Need n x) = (n ≡ name.Entry l.id) × (x ≡ Hash l.hash) × (known d c n ≡ None)
IsLinkLack d c l NoMemory = Unit {0}

-- why the link inside a directory isn't read: it is a root whose entry is missing
abbrev pub IsTopLack : Drafted → Resident → FileId → Short → Type 0
IsTopLack d c dir (Need n x) = (n ≡ name.Entry dir) × (dir.0 < 2) × (known d c n ≡ None)
IsTopLack d c dir NoMemory = Unit {0}

-- a draft in which an entry is set under a parent
abbrev pub IsPut : Drafted → Drafted → Option Name → EntryFields → Type 0
IsPut d e p x = (n : Name) → drafted e n ≡ (if same_name (name.Entry x.id) n then Some (set_to p (node.Entry x)) else drafted d n)

-- only entries are set, and what is set is seen
abbrev pub OnlyEntries : Drafted → Drafted → Type 0
OnlyEntries d e = (n : Name) → (drafted e n ≡ drafted d n) ⊎ ((id : FileId) × (x : EntryFields) × (p : Option Name) × (n ≡ name.Entry id) × (drafted e n ≡ Some (set_to p (node.Entry x))))

-- the link holds a hash of what holds one, and where there is none nothing does
abbrev pub IsLinkOf : (Hash32 → Type 0) → Option Link → Type 0
IsLinkOf holds None = (x : Hash32) → holds x → ⊥
IsLinkOf holds (Some l) = holds l.hash

-- the link by which a node holds a hash of an entry, if it does
abbrev pub IsLinkIn : Node → FileId → Option Link → Type 0
IsLinkIn k i l = IsLinkOf (Holds k (name.Entry i)) l
