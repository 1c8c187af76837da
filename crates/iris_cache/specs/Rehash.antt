-- A hash put into a node for one of its children.
use Rattle.std.specs.Prelude.{◌-◌, ◌*◌, ◌+◌, Bool, if◌then◌else◌, Option, Some, None}
use Rattle.iris_name.specs.Names.{same_name}
use Rattle.iris_name.specs.declared.name.FileId.{FileId}
use Rattle.iris_name.specs.declared.name.Hash32.{Hash32}
use Rattle.iris_name.specs.declared.name.Name as names
use Rattle.iris_name.specs.declared.name.Name.TheVariants as name
use Rattle.iris_node.specs.declared.node.Side.{Side}
use Rattle.iris_node.specs.declared.node.Side.TheVariants.{Fold, Below}
use Rattle.iris_node.specs.declared.node.Link.{Link}
use Rattle.iris_node.specs.declared.node.Body.{Body}
use Rattle.iris_node.specs.declared.node.Body.TheVariants.{Dir, File}
use Rattle.iris_node.specs.declared.node.Node.{Node}
use Rattle.iris_node.specs.declared.node.Node.TheVariants.{Entry, Part}
use Rattle.iris_node.specs.Fields.{EntryFields, PartFields}
use Rattle.iris_node.specs.Rules.{most_level}
use Rattle.iris_cache.specs.declared.held.Held.{Held}

-- the part that covers all places of a file
abbrev pub top_part : FileId → names.Name
top_part file = name.Part file most_level 0

-- the parts that cover the two halves of a part
abbrev pub low_part : PartFields → names.Name
low_part p = name.Part p.file (p.level - 1) (2 * p.index)

abbrev pub high_part : PartFields → names.Name
high_part p = name.Part p.file (p.level - 1) (2 * p.index + 1)

-- a link, with the hash x where it leads to n
abbrev pub relinked : names.Name → Hash32 → Option Link → Option Link
relinked n x None = None
relinked n x (Some l) = Some (record { id = l.id; hash = if same_name (name.Entry l.id) n then x else l.hash; blocks = l.blocks })

-- a side, with the hash x where its part is n
abbrev pub resided : Bool → Hash32 → Side → Side
resided here x (Fold version) = Fold version
resided here x (Below hash) = Below (if here then x else hash)

-- what an entry says of its directory or file, with the hash x wherever it names n
abbrev pub rebodied : names.Name → Hash32 → FileId → Body → Body
rebodied n x id (Dir top) = Dir (relinked n x top)
rebodied n x id (File size counter versions) = File size counter (resided (same_name (top_part id) n) x versions)

-- an entry, with the hash x wherever it names n
abbrev pub reentered : names.Name → Hash32 → EntryFields → EntryFields
reentered n x e = record { id = e.id; name = e.name; left = relinked n x e.left; right = relinked n x e.right; body = rebodied n x e.id e.body }

-- a part, with the hash x wherever it names n
abbrev pub reparted : names.Name → Hash32 → PartFields → PartFields
reparted n x p = record { file = p.file; level = p.level; index = p.index; low = resided (same_name (low_part p) n) x p.low; high = resided (same_name (high_part p) n) x p.high }

-- a node, with the hash x in each link and side that names n
abbrev pub rehashed : names.Name → Hash32 → Node → Node
rehashed n x (Entry e) = Entry (reentered n x e)
rehashed n x (Part p) = Part (reparted n x p)

-- what is held of a node, with the hash x in each link and side that names n
abbrev pub with_hash : names.Name → Hash32 → Held → Held
with_hash n x h = record h { node = rehashed n x h.node }
