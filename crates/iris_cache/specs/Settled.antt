-- When a node can be settled, and what is held then.
use Rattle.std.specs.Prelude.{◌≡◌, true, false, Some, IsSomeAnd}
use Rattle.iris_name.specs.Names.{same_name}
use Rattle.iris_name.specs.declared.name.Name.{Name}
use Rattle.iris_node.specs.Unfolded.{hash}
use Rattle.iris_cache.specs.declared.held.Held.{Held}
use Rattle.iris_cache.specs.Held.{points, settled_so}
use Rattle.iris_cache.specs.Rehash.{with_hash}
use Rattle.iris_cache.specs.Resident.{Resident, held_node, map_if, resident_parent}

-- all resident children of a name are settled
abbrev pub HasSettledChildren : Resident → Name → Type 0
HasSettledChildren c n = (q : Name) (h : Held) → held_node c q ≡ Some h → h.parent ≡ Some n → h.settled ≡ true

-- a node is resident and isn't settled, and all its resident children are
abbrev pub IsReady : Resident → Name → Type 0
IsReady c n = IsSomeAnd (held_node c n) (λ h. h.settled ≡ false) × HasSettledChildren c n

-- it is settled by the hash of its record, which its parent holds then, where that is resident
abbrev pub Settles : Resident → Resident → Name → Type 0
Settles c e n = (h : Held) → held_node c n ≡ Some h → (q : Name) → held_node e q ≡ map_if (points (resident_parent c n) q) (with_hash n (hash h.node)) (map_if (same_name n q) settled_so (held_node c q))
