-- Which resident nodes can go, and when the set of their names says so.
use Rattle.std.specs.Prelude.{◌≡◌, ◌&&◌, ℕ, Bool, true, false, not, List, Option, Some, None, is_none, IsSomeAnd}
use Rattle.std.specs.Option.{option_map}
use Rattle.std.specs.List.{list_any}
use Rattle.iris_name.specs.Names.{same_name}
use Rattle.iris_name.specs.declared.name.Name.{Name}
use Rattle.iris_cache.specs.declared.held.Held.{Held}
use Rattle.iris_cache.specs.declared.held.Edited.{Edited}
use Rattle.iris_cache.specs.declared.held.Edited.TheVariants.{Missing, Kept, Turned}
use Rattle.iris_cache.specs.Held.{stay_of, unpinned_node}
use Rattle.iris_cache.specs.Resident.{Resident, held_node}

-- a resident node that `evict` would let go
abbrev pub CanGo : Resident → Name → Type 0
CanGo c n = IsSomeAnd (held_node c n) (λ (h : Held). stay_of h ≡ None)

-- names that can go, and whether one may be missing
pub record IdleNames : Type 0 where
  pub names : List Name
  pub unsure : Bool

abbrev pub is_idle : IdleNames → Name → Bool
is_idle i n = list_any (same_name n) i.names

-- whether nothing keeps what may be held
abbrev pub is_free : Option Held → Bool
is_free None = false
is_free (Some h) = is_none (stay_of h)

-- a caller's pin alone keeps what may be held
abbrev pub is_freed_by : ℕ → Option Held → Bool
is_freed_by who h = not (is_free h) && is_free (option_map (unpinned_node who) h)

-- whether an edit found nothing
abbrev pub is_missing : Edited → Bool
is_missing Missing = true
is_missing Kept = false
is_missing Turned = false

-- whether an edit turned what can go into what stays, or the other way round
abbrev pub is_turned : Edited → Bool
is_turned Missing = false
is_turned Kept = false
is_turned Turned = true

-- unless a name may be missing, exactly those that can go are named
abbrev pub AreIdle : Resident → IdleNames → Type 0
AreIdle c i = i.unsure ≡ false → (n : Name) → is_idle i n ≡ is_free (held_node c n)
