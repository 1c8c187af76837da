use Rattle.std.proofs.Common.{arith}
use Rattle.iris_version_tree.proofs.Levels.{fits_at}
use Rattle.iris_version_tree.proofs.reading.past.Goals as goal

pub returns-clause-within : goal.returns-clause-within
returns-clause-within c = omega (arith, fits_at c.args.level c.args.place c.requires.level c.requires.within)
