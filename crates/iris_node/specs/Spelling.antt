-- The one spelling of each node: format, kind and fields from left to right, numbers big-endian.
use Rattle.std.specs.Prelude.{◌≡◌, ℕ, List, [], ◌∷◌, ◌++◌, length, Option, Some, None}
use Rattle.std.specs.Int.{w32, w64, to_be_bytes}
use Rattle.iris_node.specs.declared.node.Side.{Side}
use Rattle.iris_node.specs.declared.node.Side.TheVariants.{Fold, Below}
use Rattle.iris_node.specs.declared.node.Link.{Link}
use Rattle.iris_node.specs.declared.node.Body.{Body}
use Rattle.iris_node.specs.declared.node.Body.TheVariants.{Dir, File}
use Rattle.iris_node.specs.declared.node.Node.{Node}
use Rattle.iris_node.specs.declared.node.Node.TheVariants.{Entry, Part}
use Rattle.iris_name.specs.declared.name.Name.{Name}
use Rattle.iris_node.specs.Fields.{EntryFields, PartFields}
use Rattle.iris_node.specs.Nodes.{IsNode, name_of}

-- a link: a byte 0 where it is absent, else a byte 1, the id, the hash and the count of blocks
abbrev pub link : Option Link → List ℕ
link None = 0 ∷ []
link (Some l) = 1 ∷ (to_be_bytes w64 l.id.0 ++ (l.hash.0 ++ to_be_bytes w64 l.blocks))

-- a side: a byte 0 and the version of all its places, or a byte 1 and the hash of the part below
abbrev pub spelled_side : Side → List ℕ
spelled_side (Fold version) = 0 ∷ to_be_bytes w64 version
spelled_side (Below hash) = 1 ∷ hash.0

-- a name: a byte for its length, and its bytes
abbrev pub named : List ℕ → List ℕ
named name = length name ∷ name

-- a directory is of kind 1, a file of kind 2
abbrev pub kind_byte : Body → ℕ
kind_byte (Dir top) = 1
kind_byte (File size counter versions) = 2

-- a directory's link to what is inside; a file's length, counter and side of all versions
abbrev pub body : Body → List ℕ
body (Dir top) = link top
body (File size counter versions) = to_be_bytes w64 size ++ (to_be_bytes w64 counter ++ spelled_side versions)

-- the format of an entry's record
abbrev pub entry_format : EntryFields → ℕ
entry_format e = 1

-- the format of a part's record
abbrev pub part_format : PartFields → ℕ
part_format p = 1

-- an entry, without its format and kind
abbrev pub spelled_entry : EntryFields → List ℕ
spelled_entry e = to_be_bytes w64 e.id.0 ++ (named e.name ++ (link e.left ++ (link e.right ++ body e.body)))

-- a part, without its format and kind
abbrev pub part : PartFields → List ℕ
part p = to_be_bytes w64 p.file.0 ++ (p.level ∷ (to_be_bytes w32 p.index ++ (spelled_side p.low ++ spelled_side p.high)))

-- the record of a node; a part is of kind 3
unfoldable pub spelling : Node → List ℕ
spelling (Entry e) = entry_format e ∷ kind_byte e.body ∷ spelled_entry e
spelling (Part p) = part_format p ∷ 3 ∷ part p

-- Bytes spell a node of this name.
pub record SpellsNode (n : Name) (bytes : List ℕ) : Type 0 where
  pub node : Node
  pub is : IsNode node
  pub named : name_of node ≡ n
  pub bytes_ : bytes ≡ spelling node
