use Rattle.std.proofs.Common.{rules}
use Rattle.iris_blocks.proofs.held.touches.Goals as goal

pub returns-in-Some : goal.returns-in-Some
returns-in-Some c = search rules
