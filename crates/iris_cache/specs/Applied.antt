-- What a draft leaves of a cache.
use Rattle.std.specs.Prelude.{◌≡◌, ◌≢◌, ◌||◌, ℕ, zero, suc, Bool, true, false, Option, Some, None}
use Rattle.std.specs.Option.{option_map}
use Rattle.iris_name.specs.Names.{same_name}
use Rattle.iris_name.specs.declared.name.Name.{Name}
use Rattle.iris_node.specs.declared.node.Node.{Node}
use Rattle.iris_cache.specs.declared.held.Held.{Held}
use Rattle.iris_cache.specs.declared.draft.Change.{Change}
use Rattle.iris_cache.specs.Held.{with_kids, with_node, moved_node, with_parent}
use Rattle.iris_cache.specs.Resident.{Resident, held_node, children, map_if}
use Rattle.iris_cache.specs.Drafted.{Drafted, drafted}
use Rattle.iris_cache.specs.Pictures.{parent_after}

-- a node that comes by a draft: dirty and unsettled, without a pin, and nothing is out
abbrev pub arrived_node : Option Name → Node → Held
arrived_node parent node = record { node = node; parent = parent; kids = 0; pins = 0; dirty = true; settled = false; out = None; touched = false }

-- a node that is set anew keeps its pins, its marks and what is out
abbrev pub reset_node : Option Name → Node → Held → Held
reset_node parent node h = record h { node = node; parent = parent }

abbrev pub landed_node_by : Option Name → Option Node → Option Held → Option Held
landed_node_by parent None h = None
landed_node_by parent (Some node) None = Some (arrived_node parent node)
landed_node_by parent (Some node) (Some h) = Some (reset_node parent node h)

-- what a change makes of what is held
abbrev pub landed_node : Option Change → Option Held → Option Held
landed_node None h = h
landed_node (Some change) h = landed_node_by change.parent change.node h

-- what is held of a name, but for the count of its children
abbrev pub bare : Resident → Name → Option Held
bare c n = option_map (with_kids 0) (held_node c n)

-- a node in the place of what was held
abbrev pub node_written : Option Node → Option Held → Option Held
node_written None h = None
node_written (Some node) None = Some (arrived_node None node)
node_written (Some node) (Some h) = Some (with_node node h)

-- the node that a change sets
abbrev pub node_of_change : Option Change → Option Node
node_of_change None = None
node_of_change (Some change) = change.node

-- a change whose node was handed out
abbrev pub spent : Change → Change
spent change = record change { node = None }

-- what is held, under the parent that a change gives
abbrev pub hung : Option Change → Option Held → Option Held
hung None h = h
hung (Some change) h = option_map (with_parent change.parent) h

-- whether q is at most k - 1 parents up from where one starts
abbrev pub is_above_within : (Name → Option Name) → ℕ → Option Name → Name → Bool
is_above_within up zero at q = false
is_above_within up (suc k) None q = false
is_above_within up (suc k) (Some n) q = same_name n q || is_above_within up k (up n) q

-- q is n or an ancestor of n
abbrev pub IsSelfOrAncestor : (Name → Option Name) → Name → Name → Type 0
IsSelfOrAncestor up n q = (k : ℕ) × (is_above_within up k (Some n) q ≡ true)

-- a node that is set where none was, or to another value
abbrev pub Differs : Option Node → Option Held → Type 0
Differs None h = ⊥
Differs (Some node) None = Unit {0}
Differs (Some node) (Some h) = node ≢ h.node

abbrev pub Changed : Option Change → Option Held → Type 0
Changed None h = ⊥
Changed (Some change) h = Differs change.node h

-- What a draft leaves of a name: what its change makes of what was held, marked exactly where a changed node is at or below it with the draft made.
pub record Lands (d : Drafted) (old new : Resident) (q : Name) : Type 0 where
  pub marked : Bool
  pub is : held_node new q ≡ option_map (with_kids (children new q)) (landed_node (drafted d q) (map_if marked moved_node (held_node old q)))
  pub from : marked ≡ true → (n : Name) × Changed (drafted d n) (held_node old n) × IsSelfOrAncestor (parent_after d old) n q
  pub all : (n : Name) → Changed (drafted d n) (held_node old n) → IsSelfOrAncestor (parent_after d old) n q → marked ≡ true
