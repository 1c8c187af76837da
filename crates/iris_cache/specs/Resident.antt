-- What a contract sees of the cache, and the words on it.
use Rattle.std.specs.Prelude.{◌≡◌, ◌<◌, ◌^◌, ◌+◌, ℕ, Bool, true, cond, List, Option, Some, None, length}
use Rattle.std.specs.Option.{option_map}
use Rattle.std.specs.Map.{lookup, keys_of, values_of}
use Rattle.std.specs.List.{list_any, count_by, IsDistinct}
use Rattle.iris_name.specs.Names.{same_name}
use Rattle.iris_name.specs.declared.name.Name.{Name}
use Rattle.iris_node.specs.Nodes.{name_of}
use Rattle.iris_cache.specs.declared.held.Held.{Held}
use Rattle.iris_cache.specs.Held.{is_child}

-- the resident nodes by name, each once and in an order that is left open, and the names with an empty place
pub record Resident : Type 0 where
  pub nodes : List (Name × Held)
  pub room : List Name

-- what is held of a name
abbrev pub held_node : Resident → Name → Option Held
held_node c n = lookup (same_name n) c.nodes

-- whether a name has an empty place
abbrev pub has_room : Resident → Name → Bool
has_room c n = list_any (same_name n) c.room

-- how many resident nodes have this parent
abbrev pub children : Resident → Name → ℕ
children c n = count_by (is_child n) (values_of c.nodes)

abbrev pub parent_in : Option Held → Option Name
parent_in None = None
parent_in (Some h) = h.parent

-- the parent of a resident node
abbrev pub resident_parent : Resident → Name → Option Name
resident_parent c n = parent_in (held_node c n)

-- what may be held, changed by f where the test holds
abbrev pub map_if : {A : Type 0} → Bool → (A → A) → Option A → Option A
map_if b f h = cond b (option_map f h) h

-- what is held of n is changed by f, and nothing else
abbrev pub Updates : Resident → Resident → Name → (Held → Held) → Type 0
Updates old new n f = (q : Name) → held_node new q ≡ map_if (same_name n q) f (held_node old q)

-- What every cache keeps.
pub record IsSoundCache (c : Resident) : Type 0 where
  -- each name is resident once
  pub once : IsDistinct same_name (keys_of c.nodes)
  -- each node is held under its own name
  pub own : (n : Name) (h : Held) → held_node c n ≡ Some h → name_of h.node ≡ n
  -- `kids` counts the resident children
  pub kids : (n : Name) (h : Held) → held_node c n ≡ Some h → h.kids ≡ children c n
  -- no resident name has an empty place
  pub empty : (n : Name) → has_room c n ≡ true → held_node c n ≡ None
  -- names that are resident or have a place are fewer than 2^32
  pub few : length c.nodes + length c.room < 2 ^ 32
