use Rattle.iris.proofs.Keys.{no_key}
use Rattle.iris.proofs.words.read_key.Goals as goal

pub returns-clause-none : goal.returns-clause-none
returns-clause-none c = no_key _ _ _ c.from_hex.ensures c.ok.ensures.value
