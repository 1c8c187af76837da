-- Words on parts and sides.
use Rattle.std.specs.Prelude.{◌≡◌, ◌==◌, ◌+◌, ◌/◌, ◌%◌, ℕ, Option, Some, None, if◌then◌else◌}
use Rattle.iris_name.specs.declared.name.FileId.{FileId}
use Rattle.iris_name.specs.declared.name.Name.{Name}
use Rattle.iris_name.specs.declared.note.Expect.TheVariants.{Hash}
use Rattle.iris_cache.specs.declared.held.Short.{Short}
use Rattle.iris_cache.specs.declared.held.Short.TheVariants.{Need}
use Rattle.iris_name.specs.declared.name.Name.TheVariants as name
use Rattle.iris_node.specs.Rules.{most_level}
use Rattle.iris_cache.specs.declared.held.Held.{Held}
use Rattle.iris_node.specs.declared.node.Side.{Side}
use Rattle.iris_node.specs.declared.node.Side.TheVariants.{Fold, Below}
use Rattle.iris_node.specs.declared.node.Body.{Body}
use Rattle.iris_node.specs.declared.node.Body.TheVariants.{Dir, File}
use Rattle.iris_node.specs.declared.node.Node.{Node}
use Rattle.iris_node.specs.declared.node.Node.TheVariants.{Entry, Part}
use Rattle.iris_node.specs.Fields.{EntryFields, PartFields}

-- the part that is seen, if one is
abbrev pub part_seen : Option Node → Option PartFields
part_seen None = None
part_seen (Some (Entry e)) = None
part_seen (Some (Part p)) = Some p

-- the half of a part on which a place lies, by its bit
abbrev pub side_toward : ℕ → PartFields → Side
side_toward bit p = if bit == 0 then p.low else p.high

abbrev pub side_of_body : Body → Option Side
side_of_body (Dir top) = None
side_of_body (File size counter versions) = Some versions

-- the side of all versions that an entry holds, if it is a file's
abbrev pub side_seen : Option Node → Option Side
side_seen None = None
side_seen (Some (Part p)) = None
side_seen (Some (Entry e)) = side_of_body e.body

-- two sides of one version as one
abbrev pub common_of : Side → Side → Option ℕ
common_of (Fold x) (Fold y) = if x == y then Some x else None
common_of (Fold x) (Below h) = None
common_of (Below h) s = None

-- a hash of the part below
abbrev pub IsBelowSide : Side → Type 0
IsBelowSide (Fold x) = ⊥
IsBelowSide (Below h) = Unit {0}

-- the side that a node holds of the part of an index directly below it, if it holds one
abbrev pub side_below : Node → ℕ → Option Side
side_below (Entry e) index = side_of_body e.body
side_below (Part p) index = Some (side_toward (index % 2) p)

abbrev pub body_with : Side → Body → Body
body_with s (Dir top) = Dir top
body_with s (File size counter versions) = File size counter s

-- an entry with this side of all its versions, if it is a file's
abbrev pub entry_with : Side → EntryFields → EntryFields
entry_with s e = record { id = e.id; name = e.name; left = e.left; right = e.right; body = body_with s e.body }

-- the name of the part or the entry directly over a part
abbrev pub over_name : FileId → ℕ → ℕ → Name
over_name file level index = if level == most_level then name.Entry file else name.Part file (level + 1) (index / 2)

-- the side that a resident node holds of the part of an index directly below it
abbrev pub held_side : Option Held → ℕ → Option Side
held_side None index = None
held_side (Some h) index = side_below h.node index

-- the halves of a side: twice its version, or those of the part that is seen
abbrev pub AreHalvesOf : Side → Option PartFields → Side → Side → Type 0
AreHalvesOf (Fold x) o low high = (low ≡ Fold x) × (high ≡ Fold x)
AreHalvesOf (Below h) None low high = Unit {0}
AreHalvesOf (Below h) (Some p) low high = (low ≡ p.low) × (high ≡ p.high)

-- a side that isn't known for lack of its part
abbrev pub IsNeedOf : Side → Name → Short → Type 0
IsNeedOf (Fold x) n e = ⊥
IsNeedOf (Below h) n e = e ≡ Need n (Hash h)
