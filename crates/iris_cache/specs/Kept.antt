-- What a cache keeps in its fields.
use Rattle.std.specs.Prelude.{◌≡◌, ◌≤◌, ℕ, Bool, false, None, length}
use Rattle.iris_name.specs.declared.name.Name.{Name}
use Rattle.iris_links.specs.Links.{LinkIndex}
use Rattle.iris_cache.specs.Resident.{Resident, held_node, children, IsSoundCache}
use Rattle.iris_cache.specs.Idle.{IdleNames, AreIdle}
use Rattle.iris_cache.specs.Indexed.{IsIndexed}
use Rattle.iris_cache.specs.Dirty.{dirty_nodes}

-- A place for each name with room, whether a node's parent may be missing, the index of links, the names that can go, and how many nodes are dirty.
pub record IsKept (c : Resident) (astray : Bool) (free : ℕ) (links : LinkIndex) (idle : IdleNames) (dirty : ℕ) : Type 0 where
  pub sound : IsSoundCache c
  pub places : length c.room ≤ free
  pub homed : astray ≡ false → (n : Name) → held_node c n ≡ None → children c n ≡ 0
  pub indexed : IsIndexed c links
  pub idling : AreIdle c idle
  pub counted : dirty ≡ dirty_nodes c
