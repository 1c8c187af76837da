-- What is there before any store was asked.
use Rattle.std.specs.Prelude.{◌≡◌, ℕ, true, false, if◌then◌else◌, Option, Some, None}
use Rattle.iris_cache.specs.declared.held.Held.{Held}
use Rattle.iris_cache.specs.Held.{kid_more, points}
use Rattle.iris_cache.specs.Resident.{children, held_node, map_if}
use Rattle.iris_name.specs.declared.name.Name.{Name}
use Rattle.iris_name.specs.Names.{same_name}
use Rattle.iris_node.specs.Nodes.{name_of}
use Rattle.iris_node.specs.declared.node.Node.{Node}
use Rattle.iris_pool.specs.Pool.{PoolState}

-- a node that no store has yet: dirty and settled, without a pin, and nothing is out
abbrev pub admitted_node : Option Name → Node → ℕ → Held
admitted_node parent node kids = record { node = node; parent = parent; kids = kids; pins = 0; dirty = true; settled = true; out = None; touched = false }

-- it comes below its parent, and all else stays
abbrev pub NodeAdmitted : PoolState → PoolState → Option Name → Node → Type 0
NodeAdmitted p q parent node = (m : Name) → held_node q.nodes m ≡ map_if (points parent m) kid_more
    (if same_name (name_of node) m then Some (admitted_node parent node (children p.nodes (name_of node))) else held_node p.nodes m)
