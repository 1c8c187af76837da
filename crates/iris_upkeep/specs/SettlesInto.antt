-- What settling leaves of what was held.
use Rattle.std.specs.Prelude.{◌≡◌, ◌⊎◌, true, Option, Some, None}
use Rattle.std.specs.Option.{option_map}
use Rattle.iris_name.specs.declared.name.Hash32.{Hash32}
use Rattle.iris_name.specs.declared.name.Name.{Name}
use Rattle.iris_node.specs.Local.{local_of}
use Rattle.iris_cache.specs.declared.held.Held.{Held}
use Rattle.iris_cache.specs.Rehash.{with_hash}
use Rattle.iris_cache.specs.Resident.{Resident, held_node, resident_parent}

-- It is the same but for hashes in links and sides, and but for the mark that it is settled, which stays where it was.
abbrev pub SettlesInto : Option Held → Option Held → Type 0
SettlesInto None None = Unit {0}
SettlesInto None (Some h) = ⊥
SettlesInto (Some g) None = ⊥
SettlesInto (Some g) (Some h) = (h ≡ record g { node = h.node; settled = h.settled }) × ((local_of h.node ≡ local_of g.node) × (g.settled ≡ true → h.settled ≡ true))

-- what is held of a name stays, or the name is the parent of n and is told a hash of it
abbrev pub StaysOrIsTold : Resident → Resident → Name → Name → Type 0
StaysOrIsTold old new n q = (held_node new q ≡ held_node old q) ⊎ ((resident_parent old n ≡ Some q) × ((x : Hash32) × (held_node new q ≡ option_map (with_hash n x) (held_node old q))))
