use Rattle.iris_cache.proofs.Lacking.{child_was_live}
use Rattle.iris_cache.proofs.laws.child_was_live.Goals as goal

pub returns : goal.returns
returns c = child_was_live
