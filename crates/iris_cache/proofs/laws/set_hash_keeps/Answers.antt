use Rattle.iris_cache.proofs.Settling.{set-hash-keeps}
use Rattle.iris_cache.proofs.laws.set_hash_keeps.Goals as goal

pub returns : goal.returns
returns c = set-hash-keeps
