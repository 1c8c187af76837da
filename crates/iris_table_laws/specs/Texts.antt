-- The law of the grammar: the nodes of a table whose names are texts fit the grammar of records.
use Rattle.std.specs.Prelude.{◌≡◌, ℕ, List, Some}
use Rattle.std.specs.Str.{IsUtf8}
use Rattle.iris_name.specs.declared.name.Name.{Name}
use Rattle.iris_node.specs.declared.node.Node.{Node}
use Rattle.iris_node.specs.Nodes.{IsNode, name_of}
use Rattle.iris_node.specs.Unfolded.{Unfolded, node_of}
use Rattle.iris_rows.specs.Rows.{Rows, End, Row, Table}
use Rattle.iris_records.specs.Shown.{shown}
use Rattle.iris_rows.specs.Sound.{IsSound}

-- the names of rows, also of those inside directories, are UTF-8
abbrev pub AreTexts : Rows → Type 0
AreTexts End = Unit {0}
AreTexts (Row id name file inside next) = IsUtf8 name × AreTexts inside × AreTexts next

-- the names of a table are UTF-8, in the trash too
abbrev pub HasTexts : Table → Type 0
HasTexts t = AreTexts t.visible × AreTexts t.trash

-- the node that a name of a sound table of texts stands for is in the grammar of records, and has this name
abbrev pub NodesFit : Type 0
NodesFit = (order : List ℕ) (t : Table) (n : Name) (u : Unfolded) (node : Node) → IsSound t → HasTexts t → shown order t n ≡ Some u → node_of u ≡ Some node
    → IsNode node × (name_of node ≡ n)
