-- What a plan lacks (a cache miss), and why a plan stops.
use Rattle.std.specs.Prelude.{◌≡◌, ◌⊎◌, Option, Some, None, IsSome}
use Rattle.std.specs.Option.{option_map}
use Rattle.iris_name.specs.declared.name.Name.{Name}
use Rattle.iris_name.specs.declared.note.Expect.{Expect}
use Rattle.iris_name.specs.declared.note.Expect.TheVariants.{Hash, Version}
use Rattle.iris_node.specs.Unfolded.{Unfolded, hash, node_of}
use Rattle.iris_node.specs.Trees.{Shown, IsParent, IsRootName}
use Rattle.iris_cache.specs.declared.held.Short.{Short}
use Rattle.iris_cache.specs.declared.held.Short.TheVariants.{Need, NoMemory}
use Rattle.iris_cache.specs.Drafted.{Drafted, drafted}
use Rattle.iris_cache.specs.Resident.{Resident, held_node}

-- what the record of a node has to show
abbrev pub IsExpected : Expect → Option Unfolded → Type 0
IsExpected x None = ⊥
IsExpected (Hash h) (Some u) = option_map hash (node_of u) ≡ Some h
IsExpected (Version version) (Some u) = ⊥

-- The name is live, now and before; before, this is its hash, and its parent is resident. A root has no parent, and any hash may be expected of it.
pub record IsWanted (old new : Shown) (c : Resident) (n : Name) (x : Expect) : Type 0 where
  pub live : IsSome (new n)
  pub lived : IsSome (old n)
  pub expected : IsRootName n ⊎ IsExpected x (old n)
  pub parent : IsRootName n ⊎ ((p : Name) → IsParent old p n → IsSome (held_node c p))

-- A plan lacks a name that neither draft nor cache has. `pictured` says of which tables before and after it speaks,
-- with what stands in them; in each, the plan reaches the name, and it is wanted.
pub record Lacks {W : Type 0} (pictured : Shown → Shown → W → Type 0) (reached : Shown → W → Name → Type 0) (d : Drafted) (c : Resident) (n : Name) (x : Expect) : Type 0 where
  pub unset : drafted d n ≡ None
  pub absent : held_node c n ≡ None
  pub needed : (old new : Shown) (stands : W) → pictured old new stands → reached new stands n × IsWanted old new c n x

-- why a plan that takes no memory stops: at a cache miss
abbrev pub StopsOnNeed : (Name → Expect → Type 0) → Short → Type 0
StopsOnNeed lacks (Need n x) = lacks n x
StopsOnNeed lacks NoMemory = ⊥

-- why a plan stops: at a cache miss, or out of memory
abbrev pub StopsShort : (Name → Expect → Type 0) → Short → Type 0
StopsShort lacks (Need n x) = lacks n x
StopsShort lacks NoMemory = Unit {0}
