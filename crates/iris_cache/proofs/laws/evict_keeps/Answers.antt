use Rattle.iris_cache.proofs.Keeping.{evict-keeps}
use Rattle.iris_cache.proofs.laws.evict_keeps.Goals as goal

pub returns : goal.returns
returns c = evict-keeps
