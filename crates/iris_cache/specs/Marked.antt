-- The marks that a draft brings, before it is made.
use Rattle.std.specs.Prelude.{◌≡◌, ◌+◌, ◌⊎◌, Bool, true, Some, length}
use Rattle.iris_name.specs.declared.name.Name.{Name}
use Rattle.iris_cache.specs.Held.{moved_node}
use Rattle.iris_cache.specs.Resident.{Resident, held_node, map_if}
use Rattle.iris_cache.specs.Drafted.{Drafted, drafted}
use Rattle.iris_cache.specs.Applied.{is_above_within, Changed}
use Rattle.iris_cache.specs.Pictures.{parent_after}

-- whether q is met on the way up from n, where one goes up at most as many parents as names are resident or drafted
abbrev pub is_met_going_up : Drafted → Resident → Name → Name → Bool
is_met_going_up d c n q = is_above_within (parent_after d c) (length c.nodes + length d.changes + 1) (Some n) q

-- a node is marked with all above it where it differs, and nothing is where it doesn't
abbrev pub MarksOne : Drafted → Resident → Resident → Name → Type 0 → Type 0
MarksOne d old new n differs = (differs × ((q : Name) → held_node new q ≡ map_if (is_met_going_up d old n q) moved_node (held_node old q))) ⊎ ((differs → ⊥) × ((q : Name) → held_node new q ≡ held_node old q))

-- q is marked exactly where it is met on the way up from a changed node
pub record Marks (d : Drafted) (old new : Resident) (q : Name) : Type 0 where
  pub marked : Bool
  pub is : held_node new q ≡ map_if marked moved_node (held_node old q)
  pub from : marked ≡ true → (n : Name) × Changed (drafted d n) (held_node old n) × (is_met_going_up d old n q ≡ true)
  pub all : (n : Name) → Changed (drafted d n) (held_node old n) → is_met_going_up d old n q ≡ true → marked ≡ true
