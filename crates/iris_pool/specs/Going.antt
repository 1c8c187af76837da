-- What can leave the pool.
use Rattle.std.specs.Prelude.{◌≡◌, ◌⊎◌, ℕ, List, None, IsSome, IsSomeAnd, Contains}
use Rattle.iris_blocks.specs.declared.held.PageHeld.{PageHeld}
use Rattle.iris_blocks.specs.Held.{page_stay_of}
use Rattle.iris_blocks.specs.Paged.{held_page}
use Rattle.iris_cache.specs.Holders.{IsHolder}
use Rattle.iris_cache.specs.Idle.{CanGo}
use Rattle.iris_cache.specs.Pictures.{Holds}
use Rattle.iris_desk.specs.AtDesks.{DesksState, out_of}
use Rattle.iris_desk.specs.declared.out.Doing.TheVariants.{Get}
use Rattle.iris_desk.specs.declared.out.Out.{Out}
use Rattle.iris_name.specs.declared.name.Name.{Name}
use Rattle.iris_node.specs.declared.node.Node.{Node}
use Rattle.iris_pool.specs.Pool.{PoolState}
use Rattle.iris_upkeep.specs.Children.{HasHash}

-- a name is being fetched
abbrev pub IsFetched : DesksState → Name → Type 0
IsFetched d n = IsSomeAnd (out_of d n) (λ (p : ℕ × Out). p.1.doing ≡ Get)

-- something is out for a name, or its node holds a hash of one that is being fetched
abbrev pub IsInUse : PoolState → Name → Type 0
IsInUse p n = IsSome (out_of p.desks n) ⊎ ((m : Name) × IsFetched p.desks m × IsHolder p.nodes n m)

-- the same of a name with this node
abbrev pub IsUsedAs : DesksState → Name → Node → Type 0
IsUsedAs d n node = IsSome (out_of d n) ⊎ ((m : Name) × IsFetched d m × HasHash (Holds node m))

-- a node holds a hash of the name that this fetches
abbrev pub IsParentOf : Node → Out → Type 0
IsParentOf node o = (o.doing ≡ Get) × HasHash (Holds node o.name)

-- a node holds a hash of a name that one of these fetches
abbrev pub IsParentOfAny : Node → List Out → Type 0
IsParentOfAny node outs = (o : Out) × Contains outs o × IsParentOf node o

-- a cached node that the cache lets go, and that isn't in use
abbrev pub CanLeave : PoolState → Name → Type 0
CanLeave p n = CanGo p.nodes n × (IsInUse p n → ⊥)

-- a resident block that is clean and unpinned, and for which nothing is out
abbrev pub PageCanLeave : PoolState → Name → Type 0
PageCanLeave p n = IsSomeAnd (held_page p.pages n) (λ (h : PageHeld). page_stay_of h ≡ None) × (out_of p.desks n ≡ None)
