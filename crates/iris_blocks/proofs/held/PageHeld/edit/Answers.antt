use Rattle.std.proofs.Common.{rules}
use Rattle.iris_blocks.proofs.held.PageHeld.edit.Goals as goal

pub returns-after-self : goal.returns-after-self
returns-after-self c = search rules
