-- What a reading plan sees of entries.
use Rattle.std.specs.Prelude.{ℕ, Option, Some, None}
use Rattle.std.specs.Option.{option_map}
use Rattle.iris_name.specs.declared.name.FileId.{FileId}
use Rattle.iris_node.specs.declared.node.Body.{Body}
use Rattle.iris_node.specs.declared.node.Body.TheVariants.{Dir, File}
use Rattle.iris_node.specs.declared.node.Link.{Link}
use Rattle.iris_node.specs.declared.node.Node.{Node}
use Rattle.iris_node.specs.declared.node.Node.TheVariants as node
use Rattle.iris_node.specs.Fields.{EntryFields}

-- the entry, if a node is one
abbrev pub entry_of_node : Option Node → Option EntryFields
entry_of_node None = None
entry_of_node (Some (node.Part p)) = None
entry_of_node (Some (node.Entry e)) = Some e

abbrev pub body_inside : Body → Option Link
body_inside (Dir top) = top
body_inside (File size counter versions) = None

-- the link inside an entry, if it is a directory and isn't empty
abbrev pub inside : Option EntryFields → Option Link
inside None = None
inside (Some e) = body_inside e.body

-- the number of an id that may be there
abbrev pub id_found : Option FileId → Option ℕ
id_found = option_map (λ (i : FileId). i.0)
