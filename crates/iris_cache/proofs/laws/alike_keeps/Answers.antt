use Rattle.iris_cache.proofs.Keeping.{alike-keeps}
use Rattle.iris_cache.proofs.laws.alike_keeps.Goals as goal

pub returns : goal.returns
returns c = alike-keeps
