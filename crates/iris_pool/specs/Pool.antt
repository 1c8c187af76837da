-- What a contract sees of the pool: the cached nodes, the resident blocks, and the desks.
use Rattle.std.specs.Prelude.{◌≡◌, Bool, None, IsSome}
use Rattle.iris_blocks.specs.Paged.{Paged, held_page, has_page_room}
use Rattle.iris_cache.specs.Resident.{Resident, held_node, has_room}
use Rattle.iris_desk.specs.AtDesks.{DesksState}
use Rattle.iris_name.specs.declared.name.Name.{Name}
use Rattle.iris_name.specs.declared.name.Name.TheVariants.{Entry, Part, Block}

pub record PoolState : Type 0 where
  pub nodes : Resident
  pub pages : Paged
  pub desks : DesksState

-- a node that isn't cached, or a block that isn't resident
abbrev pub IsAbsentIn : PoolState → Name → Type 0
IsAbsentIn p (Entry id) = held_node p.nodes (Entry id) ≡ None
IsAbsentIn p (Part file level index) = held_node p.nodes (Part file level index) ≡ None
IsAbsentIn p (Block file place) = held_page p.pages (Block file place) ≡ None

-- a node that is cached, or a block that is resident
abbrev pub IsPresent : PoolState → Name → Type 0
IsPresent p (Entry id) = IsSome (held_node p.nodes (Entry id))
IsPresent p (Part file level index) = IsSome (held_node p.nodes (Part file level index))
IsPresent p (Block file place) = IsSome (held_page p.pages (Block file place))

-- a name has an empty place
abbrev pub has_place : PoolState → Name → Bool
has_place p (Entry id) = has_room p.nodes (Entry id)
has_place p (Part file level index) = has_room p.nodes (Part file level index)
has_place p (Block file place) = has_page_room p.pages (Block file place)
