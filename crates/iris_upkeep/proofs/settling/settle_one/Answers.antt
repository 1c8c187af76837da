use Rattle.std.proofs.Common.{sym, subst}
use Rattle.iris_name.specs.Names.{same_name}
use Rattle.iris_cache.specs.Held.{points}
use Rattle.iris_cache.specs.Resident.{held_node, resident_parent}
use Rattle.iris_upkeep.specs.SettlesInto.{SettlesInto}
use Rattle.iris_upkeep.proofs.Stepped.{into-stepped}
use Rattle.iris_upkeep.proofs.settling.settle_one.Goals as goal

pub returns-clause-nodes : goal.returns-clause-nodes
returns-clause-nodes c = λ q.
    let k = c.args.cache.now in
    let n = c.args.name.now in
    subst (SettlesInto (held_node k q)) (sym (c.set_hash.ensures.nodes q)) (into-stepped (points (resident_parent k n) q) (same_name n q) n c.node_hash.result (held_node k q))
