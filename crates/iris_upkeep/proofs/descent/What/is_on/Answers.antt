use Rattle.std.proofs.Common.{rules}
use Rattle.iris_upkeep.proofs.descent.What.is_on.Goals as goal

pub returns-in-Dirty : goal.returns-in-Dirty
returns-in-Dirty c = search rules
