-- What contracts see of an entry's node and of a part's: their fields.
use Rattle.std.specs.Prelude.{ℕ, List, Option}
use Rattle.iris_name.specs.declared.name.FileId.{FileId}
use Rattle.iris_node.specs.declared.node.Side.{Side}
use Rattle.iris_node.specs.declared.node.Link.{Link}
use Rattle.iris_node.specs.declared.node.Body.{Body}

-- an entry: its id, its name, the links beside it, and what it says of the directory or file
pub record EntryFields : Type 0 where
  pub id : FileId
  pub name : List ℕ
  pub left : Option Link
  pub right : Option Link
  pub body : Body

-- a part: whose it is, where it stands in the version tree, and its two sides
pub record PartFields : Type 0 where
  pub file : FileId
  pub level : ℕ
  pub index : ℕ
  pub low : Side
  pub high : Side
