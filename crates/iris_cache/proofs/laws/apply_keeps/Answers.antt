use Rattle.iris_cache.proofs.Applying.{apply-keeps}
use Rattle.iris_cache.proofs.laws.apply_keeps.Goals as goal

pub returns : goal.returns
returns c = apply-keeps
