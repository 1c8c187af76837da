use Rattle.iris_cache.proofs.Writes.{wrote}
use Rattle.iris_cache.specs.Rehash.{with_hash}
use Rattle.iris_cache.proofs.rehash.tell.Goals as goal

pub returns-in-Some-clause-nodes : goal.returns-in-Some-clause-nodes
returns-in-Some-clause-nodes c = λ q. wrote (with_hash c.args.name.now c.args.hash) c.args.nodes.now _ c.args.at.now c.in-Some.held.now _ c.in-Some.ensures.value c.rehash.ensures (c.get_mut.follows.holds _) q
