-- The links of a node.
use Rattle.std.specs.Prelude.{◌+◌, ◌*◌, ℕ, if◌then◌else◌, Option, Some, None}
use Rattle.iris_name.specs.declared.name.FileId.{FileId}
use Rattle.iris_node.specs.declared.node.Link.{Link}
use Rattle.iris_node.specs.declared.node.Body.{Body}
use Rattle.iris_node.specs.declared.node.Body.TheVariants.{Dir, File}
use Rattle.iris_node.specs.declared.node.Node.{Node}
use Rattle.iris_node.specs.declared.node.Node.TheVariants.{Entry, Part}
use Rattle.iris_links.specs.Links.{same_id}

-- one where a link leads to the entry of an id, and else none
abbrev pub link_count : Option Link → FileId → ℕ
link_count None id = 0
link_count (Some l) id = if same_id l.id id then 1 else 0

-- the link inside a directory
abbrev pub link_inside : Body → Option Link
link_inside (Dir top) = top
link_inside (File size counter versions) = None

-- how many links of a node lead to the entry of an id: a part has none
abbrev pub links_to : FileId → Node → ℕ
links_to id (Entry e) = link_count e.left id + link_count e.right id + link_count (link_inside e.body) id
links_to id (Part p) = 0

-- the id of a node's entry, and zero for a part
abbrev pub entry_id : Node → ℕ
entry_id (Entry e) = e.id.0
entry_id (Part p) = 0

-- the id of a node's entry, once for each of its links to the entry of an id
abbrev pub sum_to : FileId → Node → ℕ
sum_to id n = links_to id n * entry_id n
