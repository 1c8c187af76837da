use Rattle.std.proofs.Common.{subst, sym}
use Rattle.iris_invariant.specs.Events.{Evicted}
use Rattle.iris_name.specs.declared.name.Name.TheVariants.{Block}
use Rattle.iris_pool.specs.Going.{PageCanLeave}
use Rattle.iris_pool.specs.Pool.{PoolState}
use Rattle.iris_pool.specs.View.{pool_view}
use Rattle.iris_pool.proofs.LeavingPages.{evicted, is_pool}
use Rattle.iris_pool.proofs.pool.Pool.evict_page.Goals as goal

pub invariant_of-self : goal.invariant_of-self
invariant_of-self c =
    let p : PoolState = record { nodes = c.self.inside.cache; pages = c.self.inside.blocks; desks = c.self.inside.desks } in
    let file = c.in_ok-file.file in
    let place = c.in_ok-file.place in
    let leave = subst (λ (x : PoolState). PageCanLeave x (Block file place)) (sym c.self.view_is) c.in_ok-file.ensures.some in
    is_pool p c.evict.new.self file place leave c.in-Ok.ensures.pages c.self.invariant c.in-Ok.ensures.room

pub returns-clause-evicted : goal.returns-clause-evicted
returns-clause-evicted c = λ key.
    let p : PoolState = record { nodes = c.self.inside.cache; pages = c.self.inside.blocks; desks = c.self.inside.desks } in
    let file = c.in_ok-file.file in
    let place = c.in_ok-file.place in
    let f = c.evict.new.self in
    let leave = subst (λ (x : PoolState). PageCanLeave x (Block file place)) (sym c.self.view_is) c.in_ok-file.ensures.some in
    subst (λ (x : PoolState). Evicted (Block file place) (pool_view key x) (pool_view key (record p { pages = f }))) c.self.view_is (evicted p f file place leave c.in-Ok.ensures.pages key)
