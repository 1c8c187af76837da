-- Nodes, the names of their records, and which of them are in the grammar.
use Rattle.std.specs.Prelude.{◌<◌, ◌^◌, ◌≡◌, length, Option, Some, None}
use Rattle.iris_name.specs.declared.name.Hash32.{Hash32}
use Rattle.iris_name.specs.declared.name.Name as names
use Rattle.iris_name.specs.declared.name.Name.TheVariants as name
use Rattle.iris_node.specs.declared.node.Side.{Side}
use Rattle.iris_node.specs.declared.node.Side.TheVariants.{Fold, Below}
use Rattle.iris_node.specs.declared.node.Link.{Link}
use Rattle.iris_node.specs.declared.node.Body.{Body}
use Rattle.iris_node.specs.declared.node.Body.TheVariants.{Dir, File}
use Rattle.iris_node.specs.declared.node.Node.{Node}
use Rattle.iris_node.specs.declared.node.Node.TheVariants.{Entry, Part}
use Rattle.iris_node.specs.Fields.{EntryFields, PartFields}
use Rattle.iris_node.specs.Rules.{IsEntry, IsPart}

-- the name under which a node's record lies in the store
abbrev pub name_of : Node → names.Name
name_of (Entry e) = name.Entry e.id
name_of (Part p) = name.Part p.file p.level p.index

-- a hash has 32 bytes
abbrev pub FitsHash : Hash32 → Type 0
FitsHash h = length h.0 ≡ 32

-- a link's numbers have 64 bits
abbrev pub FitsLink : Option Link → Type 0
FitsLink None = Unit {0}
FitsLink (Some l) = (l.id.0 < 2 ^ 64) × FitsHash l.hash × (l.blocks < 2 ^ 64)

-- a version has 64 bits
abbrev pub FitsSide : Side → Type 0
FitsSide (Fold version) = version < 2 ^ 64
FitsSide (Below hash) = FitsHash hash

-- a length and a counter have 64 bits
abbrev pub FitsBody : Body → Type 0
FitsBody (Dir top) = FitsLink top
FitsBody (File size counter versions) = (size < 2 ^ 64) × (counter < 2 ^ 64) × FitsSide versions

-- each number of an entry is in the range of its type
pub record FitsEntry (e : EntryFields) : Type 0 where
  pub id : e.id.0 < 2 ^ 64
  pub left : FitsLink e.left
  pub right : FitsLink e.right
  pub body : FitsBody e.body

-- each number of a part is in the range of its type
pub record FitsPart (p : PartFields) : Type 0 where
  pub file : p.file.0 < 2 ^ 64
  pub index : p.index < 2 ^ 32
  pub low : FitsSide p.low
  pub high : FitsSide p.high

-- A node in the grammar of records. Every value of the type `Node` is one.
abbrev pub IsNode : Node → Type 0
IsNode (Entry e) = IsEntry e × FitsEntry e
IsNode (Part p) = IsPart p × FitsPart p
