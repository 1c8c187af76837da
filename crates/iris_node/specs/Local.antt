-- What a node says by itself, all but hashes: of its links the ids and counts, of its sides the versions.
use Rattle.std.specs.Prelude.{ℕ, List, Option, Some, None}
use Rattle.iris_node.specs.declared.node.Side.{Side}
use Rattle.iris_node.specs.declared.node.Side.TheVariants.{Fold, Below}
use Rattle.iris_node.specs.declared.node.Link.{Link}
use Rattle.iris_node.specs.declared.node.Body.{Body}
use Rattle.iris_node.specs.declared.node.Body.TheVariants.{Dir, File}
use Rattle.iris_node.specs.declared.node.Node.{Node}
use Rattle.iris_node.specs.declared.node.Node.TheVariants.{Entry, Part}
use Rattle.iris_node.specs.Fields.{EntryFields}
use Rattle.iris_node.specs.Unfolded.{Unfolded, Absent, Folder, Leaf, Even, Split, Stored, blocks}

-- where a link leads, and how many blocks lie there
pub record Lead : Type 0 where
  pub id : ℕ
  pub blocks : ℕ

pub data Local : Type 0 where
  FolderAt : (id : ℕ) (name : List ℕ) (less more inside : Option Lead) → Local
  LeafAt : (id : ℕ) (name : List ℕ) (less more : Option Lead) (size counter : ℕ) (even : Option ℕ) → Local
  SplitAt : (file level index : ℕ) (low high : Option ℕ) → Local

-- the lead of a link
abbrev pub led_by : Option Link → Option Lead
led_by None = None
led_by (Some l) = Some (record { id = l.id.0; blocks = l.blocks })

-- the version of a side, where it is one
abbrev pub even_by : Side → Option ℕ
even_by (Fold version) = Some version
even_by (Below hash) = None

-- what an entry says by itself
abbrev pub entry_local : EntryFields → Body → Local
entry_local e (Dir top) = FolderAt e.id.0 e.name (led_by e.left) (led_by e.right) (led_by top)
entry_local e (File size counter versions) = LeafAt e.id.0 e.name (led_by e.left) (led_by e.right) size counter (even_by versions)

-- what a node says by itself
abbrev pub local_of : Node → Local
local_of (Entry e) = entry_local e e.body
local_of (Part p) = SplitAt p.file.0 p.level p.index (even_by p.low) (even_by p.high)

-- the lead to an entry
abbrev pub led : Unfolded → Option Lead
led (Folder id name less more inside) = Some (record { id = id; blocks = blocks (Folder id name less more inside) })
led (Leaf id name less more size counter versions) = Some (record { id = id; blocks = blocks (Leaf id name less more size counter versions) })
led Absent = None
led (Even version) = None
led (Split file level index low high) = None
led (Stored version bytes) = None

-- the version of a range, where it is one
abbrev pub even : Unfolded → Option ℕ
even (Even version) = Some version
even Absent = None
even (Folder id name less more inside) = None
even (Leaf id name less more size counter versions) = None
even (Split file level index low high) = None
even (Stored version bytes) = None

-- what an unfolded node says by itself
abbrev pub local : Unfolded → Option Local
local (Folder id name less more inside) = Some (FolderAt id name (led less) (led more) (led inside))
local (Leaf id name less more size counter versions) = Some (LeafAt id name (led less) (led more) size counter (even versions))
local (Split file level index low high) = Some (SplitAt file level index (even low) (even high))
local Absent = None
local (Even version) = None
local (Stored version bytes) = None
