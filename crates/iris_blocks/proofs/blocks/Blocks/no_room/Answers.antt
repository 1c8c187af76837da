use Rattle.std.proofs.Common.{rules}
use Rattle.iris_blocks.proofs.blocks.Blocks.no_room.Goals as goal

pub returns-clause-room : goal.returns-clause-room
returns-clause-room c = search rules
