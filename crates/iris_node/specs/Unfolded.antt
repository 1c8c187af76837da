-- What lies in the store, unfolded: a node with all nodes below it and without hashes, or a block.
-- A node's own hashes, and so its record, follow from what lies below it.
use Rattle.std.specs.Prelude.{ℕ, ◌+◌, ◌/◌, List, [], Option, Some, None}
use Rattle.sha2.specs.Sha256.{sha256}
use Rattle.iris_name.specs.declared.name.FileId.{FileId}
use Rattle.iris_name.specs.declared.name.Hash32.{Hash32}
use Rattle.iris_node.specs.declared.node.Side.{Side}
use Rattle.iris_node.specs.declared.node.Side.TheVariants.{Fold, Below}
use Rattle.iris_node.specs.declared.node.Link.{Link}
use Rattle.iris_node.specs.declared.node.Body.TheVariants.{Dir, File}
use Rattle.iris_node.specs.declared.node.Node.{Node}
use Rattle.iris_node.specs.declared.node.Node.TheVariants.{Entry, Part}
use Rattle.iris_node.specs.Spelling.{spelling}

pub data Unfolded : Type 0 where
  -- no entry: what an absent link leads to
  Absent : Unfolded
  -- a directory's entry, with the entries of lesser and of greater names below it in its directory, and those inside it
  Folder : (id : ℕ) (name : List ℕ) (less more inside : Unfolded) → Unfolded
  -- a file's entry, with the side of all its versions
  Leaf : (id : ℕ) (name : List ℕ) (less more : Unfolded) (size counter : ℕ) (versions : Unfolded) → Unfolded
  -- a range of places of one version
  Even : (version : ℕ) → Unfolded
  -- a range of several versions: a part with its two halves
  Split : (file level index : ℕ) (low high : Unfolded) → Unfolded
  -- a block with its version
  Stored : (version : ℕ) (bytes : List ℕ) → Unfolded

-- how many blocks lie at and below an entry, holes included
abbrev pub blocks : Unfolded → ℕ
blocks (Folder id name less more inside) = blocks less + (blocks inside + blocks more)
blocks (Leaf id name less more size counter versions) = blocks less + ((size + 4095) / 4096 + blocks more)
blocks Absent = 0
blocks (Even version) = 0
blocks (Split file level index low high) = 0
blocks (Stored version bytes) = 0

-- a number as an id
abbrev pub id_of : ℕ → FileId
id_of n = record { 0 = n }

-- the hash of a node: SHA-256 of its spelling
abbrev pub hash : Node → Hash32
hash n = record { 0 = sha256 (spelling n) }

-- the id that a node speaks of
abbrev pub owner : Node → FileId
owner (Entry e) = e.id
owner (Part p) = p.file

-- the link to an entry, given its node; absent where there is none
abbrev pub link_to : Unfolded → Option Node → Option Link
link_to u None = None
link_to u (Some n) = Some (record { id = owner n; hash = hash n; blocks = blocks u })

-- the side of a range, given its part's node where it has one
abbrev pub side_to : Unfolded → Option Node → Side
side_to (Even version) n = Fold version
side_to u (Some n) = Below (hash n)
side_to u None = Fold 0

-- the node with its true hashes; what is no entry and no part has none
unfoldable pub node_of : Unfolded → Option Node
node_of (Folder id name less more inside) = Some (Entry (record {
  id = id_of id;
  name = name;
  left = link_to less (node_of less);
  right = link_to more (node_of more);
  body = Dir (link_to inside (node_of inside));
}))
node_of (Leaf id name less more size counter versions) = Some (Entry (record {
  id = id_of id;
  name = name;
  left = link_to less (node_of less);
  right = link_to more (node_of more);
  body = File size counter (side_to versions (node_of versions));
}))
node_of (Split file level index low high) = Some (Part (record {
  file = id_of file;
  level = level;
  index = index;
  low = side_to low (node_of low);
  high = side_to high (node_of high);
}))
node_of Absent = None
node_of (Even version) = None
node_of (Stored version bytes) = None

-- a record of a node that may be there
abbrev pub spelled_node : Option Node → List ℕ
spelled_node None = []
spelled_node (Some n) = spelling n

-- the record of an entry or a part
abbrev pub node_record : Unfolded → List ℕ
node_record u = spelled_node (node_of u)

-- how many blocks lie behind a link
abbrev pub link_blocks : Option Link → ℕ
link_blocks None = 0
link_blocks (Some l) = l.blocks
