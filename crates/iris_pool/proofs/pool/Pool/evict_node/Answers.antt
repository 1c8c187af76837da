use Rattle.std.proofs.Common.{subst, sym}
use Rattle.iris_invariant.specs.Events.{Evicted}
use Rattle.iris_pool.specs.Going.{CanLeave}
use Rattle.iris_pool.specs.Pool.{PoolState}
use Rattle.iris_pool.specs.View.{pool_view}
use Rattle.iris_pool.proofs.Leaving.{evicted, is_pool}
use Rattle.iris_pool.proofs.pool.Pool.evict_node.Goals as goal

pub invariant_of-self : goal.invariant_of-self
invariant_of-self c =
    let p : PoolState = record { nodes = c.self.inside.cache; pages = c.self.inside.blocks; desks = c.self.inside.desks } in
    let n = c.in_ok-name.name in
    let leave = subst (λ (x : PoolState). CanLeave x n) (sym c.self.view_is) c.in_ok-name.ensures.some in
    is_pool p c.evict.new.self n c.sound.ensures leave c.in-Ok.ensures.nodes c.self.invariant c.in-Ok.ensures.room

pub returns-clause-evicted : goal.returns-clause-evicted
returns-clause-evicted c = λ key.
    let p : PoolState = record { nodes = c.self.inside.cache; pages = c.self.inside.blocks; desks = c.self.inside.desks } in
    let n = c.in_ok-name.name in
    let e = c.evict.new.self in
    let leave = subst (λ (x : PoolState). CanLeave x n) (sym c.self.view_is) c.in_ok-name.ensures.some in
    subst (λ (x : PoolState). Evicted n (pool_view key x) (pool_view key (record p { nodes = e }))) c.self.view_is (evicted p e n c.sound.ensures leave c.in-Ok.ensures.nodes key)
