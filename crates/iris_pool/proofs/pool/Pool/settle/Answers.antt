use Rattle.iris_pool.specs.Pool.{PoolState}
use Rattle.iris_pool.proofs.StayingPool.{settled_pool}
use Rattle.iris_pool.proofs.pool.Pool.settle.Goals as goal

pub invariant_of-self : goal.invariant_of-self
invariant_of-self c =
    let p : PoolState = record { nodes = c.self.inside.cache; pages = c.self.inside.blocks; desks = c.self.inside.desks } in
    settled_pool p c.settle_all.new.cache c.self.invariant c.settle_all.ensures.room c.settle_all.ensures.nodes
