use Rattle.iris_cache.proofs.EmptyDraft.{draft_begins}
use Rattle.iris_cache.proofs.laws.draft_begins.Goals as goal

pub returns : goal.returns
returns c = draft_begins
