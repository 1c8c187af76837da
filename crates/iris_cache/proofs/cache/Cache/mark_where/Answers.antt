use Rattle.std.proofs.Common.{refl, inr}
use Rattle.iris_cache.proofs.cache.Cache.mark_where.Goals as goal

pub returns-else-differs-clause-nodes : goal.returns-else-differs-clause-nodes
returns-else-differs-clause-nodes c = inr (c.differs.ensures.no c.if-differs.false, λ q. refl)
