use Rattle.iris_cache.proofs.SettledChildren.{AreFine}
use Rattle.iris_cache.proofs.cache.Cache.has_settled_children.Given as goal

abbrev pub invariant-loop-i : goal.invariant-loop-i
invariant-loop-i l = AreFine l.name l.self.nodes l.i
