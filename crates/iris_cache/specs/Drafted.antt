-- What a contract sees of a draft: changes over a cache, not yet made.
use Rattle.std.specs.Prelude.{◌≡◌, ◌<◌, ◌^◌, Bool, false, List, Option, Some, None, is_some, length, slice_get, ℕ}
use Rattle.std.specs.Option.{option_map}
use Rattle.std.specs.Map.{lookup, keys_of}
use Rattle.std.specs.List.{IsDistinct}
use Rattle.iris_name.specs.Names.{same_name}
use Rattle.iris_name.specs.declared.name.Name.{Name}
use Rattle.iris_node.specs.Nodes.{name_of}
use Rattle.iris_node.specs.declared.node.Node.{Node}
use Rattle.iris_cache.specs.declared.held.Held.{Held}
use Rattle.iris_cache.specs.declared.draft.Change.{Change}
use Rattle.iris_cache.specs.Resident.{Resident, held_node}

-- the changes by name, each name once and in the order in which they first came
pub record Drafted : Type 0 where
  pub changes : List (Name × Change)

-- what is to become of a name
abbrev pub drafted : Drafted → Name → Option Change
drafted d n = lookup (same_name n) d.changes

-- the i-th name, with its node, or none where it is taken away
abbrev pub drafted_at : Drafted → ℕ → Option (Name × Option Node)
drafted_at d i = option_map (λ (e : Name × Change). (e.0, e.1.node)) (slice_get d.changes i)

-- a name gets this parent and this node
abbrev pub set_to : Option Name → Node → Change
set_to parent node = record { parent = parent; node = Some node }

-- a name is taken away
abbrev pub taken_away : Change
taken_away = record { parent = None; node = None }

-- whether a change sets its name
abbrev pub is_set : Option Change → Bool
is_set None = false
is_set (Some change) = is_some change.node

-- whether a draft sets a name
abbrev pub sets : Drafted → Name → Bool
sets d n = is_set (drafted d n)

-- What is known of a name with the changes made: its node, or that it was taken away; nothing where it is missing.
abbrev pub known_by : Option Change → Option Held → Option (Option Node)
known_by (Some change) h = Some change.node
known_by None (Some h) = Some (Some h.node)
known_by None None = None

abbrev pub known : Drafted → Resident → Name → Option (Option Node)
known d c n = known_by (drafted d n) (held_node c n)

-- the node of a name with the changes made, where it is known and wasn't taken away
abbrev pub there_by : Option (Option Node) → Option Node
there_by None = None
there_by (Some node) = node

abbrev pub seen : Drafted → Resident → Name → Option Node
seen d c n = there_by (known d c n)

-- What every draft keeps.
pub record IsDraft (d : Drafted) : Type 0 where
  -- each name stands once
  pub once : IsDistinct same_name (keys_of d.changes)
  -- it has fewer than 2^32 names
  pub few : length d.changes < 2 ^ 32
  -- each node is set under its own name
  pub own : (n : Name) (change : Change) (node : Node) → drafted d n ≡ Some change → change.node ≡ Some node → name_of node ≡ n
