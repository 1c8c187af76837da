use Rattle.std.proofs.Common.{sym, ◌∙◌}
use Rattle.iris_cache.proofs.HashHolders.{holder-in}
use Rattle.iris_cache.proofs.cache.Cache.holder_at.Goals as goal

pub returns-in-Some-clause-found : goal.returns-in-Some-clause-found
returns-in-Some-clause-found c = holder-in c.args.self.now c.args.at c.args.name.now c.in-Some.held.now (sym c.in-Some.ensures) (sym c.has_hash_of.ensures ∙ c.if-has_hash_of.true)
