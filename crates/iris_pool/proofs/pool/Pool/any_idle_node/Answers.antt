use Rattle.std.proofs.Common.{arith, ap, length}
use Rattle.iris_pool.specs.Pool.{PoolState}
use Rattle.iris_pool.proofs.UsedNames.{none_cached}
use Rattle.iris_pool.proofs.pool.Pool.any_idle_node.Goals as goal

pub returns-clause-none : goal.returns-clause-none
returns-clause-none c =
    let end = c.loop-i-test.false in
    let l = c.count-i-end.ensures in
    let same = ap (λ (p : PoolState). length p.nodes.nodes) c.self.view_is in
    none_cached c.args.self.now c.loop-i.i (omega (arith, end, l, same)) c.loop-i.invariant
