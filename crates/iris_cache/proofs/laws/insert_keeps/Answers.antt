use Rattle.iris_cache.proofs.Keeping.{insert-keeps}
use Rattle.iris_cache.proofs.laws.insert_keeps.Goals as goal

pub returns : goal.returns
returns c = insert-keeps
