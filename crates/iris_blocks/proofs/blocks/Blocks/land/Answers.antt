use Rattle.std.proofs.Common.{rules}
use Rattle.iris_blocks.proofs.blocks.Blocks.land.Goals as goal

pub returns-in-None-clause-pages : goal.returns-in-None-clause-pages
returns-in-None-clause-pages c = search rules
