use Rattle.std.proofs.Common.{ap, length, ◌∙◌}
use Rattle.iris_pool.specs.Counts.{marked_nodes}
use Rattle.iris_pool.specs.Pool.{PoolState}
use Rattle.iris_pool.proofs.SummedMarks.{nodes_summed}
use Rattle.iris_pool.proofs.pool.Pool.marked_nodes.Goals as goal

pub returns : goal.returns
returns c =
    let p : PoolState = record { nodes = c.self.inside.cache; pages = c.self.inside.blocks; desks = c.self.inside.desks } in
    nodes_summed p c.dirty.result (length c.doomed.result.now) c.doomed_blocks.result c.dirty.ensures (ap length c.doomed.ensures.names) c.doomed_blocks.ensures
    ∙ ap marked_nodes c.self.view_is
