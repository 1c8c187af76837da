-- Laws of records, and of the walk.
use Rattle.std.specs.Prelude.{◌≡◌, ◌≤◌, ℕ, length}
use Rattle.iris_node.specs.declared.node.Node.{Node}
use Rattle.iris_node.specs.declared.node.Node.TheVariants.{Entry, Part}
use Rattle.iris_node.specs.Nodes.{IsNode}
use Rattle.iris_node.specs.Spelling.{spelling}
use Rattle.iris_node.specs.Unfolded.{Unfolded, blocks}
use Rattle.iris_node.specs.Walk.{walk}

-- two nodes of one spelling are one node
abbrev pub OneSpelling : Type 0
OneSpelling = (a b : Node) → IsNode a → IsNode b → spelling a ≡ spelling b → a ≡ b

-- how many bytes a record of this kind has at most
abbrev pub most_bytes : Node → ℕ
most_bytes (Entry e) = 413
most_bytes (Part p) = 81

-- no record is larger
abbrev pub Sizes : Type 0
Sizes = (n : Node) → IsNode n → length (spelling n) ≤ most_bytes n

-- an entry's count of blocks is the length of the walk at and below it
abbrev pub WalkCounts : Type 0
WalkCounts = (u : Unfolded) → length (walk u) ≡ blocks u
