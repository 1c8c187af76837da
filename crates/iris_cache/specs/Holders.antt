-- Which resident nodes hold a hash of a name.
use Rattle.std.specs.Prelude.{◌||◌, ◌+◌, ◌/◌, ℕ, Bool, false, if◌then◌else◌, nat_lt, Option, Some, None, IsSomeAnd}
use Rattle.iris_name.specs.Names.{same_name}
use Rattle.iris_name.specs.declared.name.FileId.{FileId}
use Rattle.iris_name.specs.declared.name.Hash32.{Hash32}
use Rattle.iris_name.specs.declared.name.Name as names
use Rattle.iris_name.specs.declared.name.Name.TheVariants as name
use Rattle.iris_node.specs.Rules.{most_level}
use Rattle.iris_node.specs.declared.node.Side.{Side}
use Rattle.iris_node.specs.declared.node.Side.TheVariants.{Fold, Below}
use Rattle.iris_node.specs.declared.node.Link.{Link}
use Rattle.iris_node.specs.declared.node.Body.{Body}
use Rattle.iris_node.specs.declared.node.Body.TheVariants.{Dir, File}
use Rattle.iris_node.specs.declared.node.Node.{Node}
use Rattle.iris_node.specs.declared.node.Node.TheVariants.{Entry, Part}
use Rattle.iris_cache.specs.declared.held.Held.{Held}
use Rattle.iris_cache.specs.Pictures.{Holds}
use Rattle.iris_cache.specs.Rehash.{top_part, low_part, high_part}
use Rattle.iris_cache.specs.Resident.{Resident, held_node}

-- the node of the first name is resident, and holds a hash of the second
abbrev pub IsHolder : Resident → names.Name → names.Name → Type 0
IsHolder c p n = IsSomeAnd (held_node c p) (λ (h : Held). (x : Hash32) × Holds h.node n x)

-- no resident node holds a hash of a name
abbrev pub HasNoHolder : Resident → names.Name → Type 0
HasNoHolder c n = (p : names.Name) → IsHolder c p n → ⊥

-- whether a link leads to a name
abbrev pub link_leads : Option Link → names.Name → Bool
link_leads None n = false
link_leads (Some l) n = same_name (name.Entry l.id) n

-- whether a side, whose part has the first name, holds a hash of the second
abbrev pub side_leads : names.Name → Side → names.Name → Bool
side_leads part (Fold version) n = false
side_leads part (Below h) n = same_name part n

abbrev pub body_leads : FileId → Body → names.Name → Bool
body_leads id (Dir top) n = link_leads top n
body_leads id (File size counter versions) n = side_leads (top_part id) versions n

-- whether a node holds a hash of a name
abbrev pub has_hash_of : Node → names.Name → Bool
has_hash_of (Entry e) n = link_leads e.left n || link_leads e.right n || body_leads e.id e.body n
has_hash_of (Part p) n = side_leads (low_part p) p.low n || side_leads (high_part p) p.high n

-- the one node of a version tree that may hold a hash of a part: the part one level up, or the file's entry
abbrev pub part_above : FileId → ℕ → ℕ → names.Name
part_above file level index = if nat_lt level most_level then name.Part file (level + 1) (index / 2) else name.Entry file
