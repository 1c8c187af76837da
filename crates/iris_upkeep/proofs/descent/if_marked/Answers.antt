use Rattle.std.proofs.Common.{rules}
use Rattle.iris_upkeep.proofs.descent.if_marked.Goals as goal

pub returns-in-Some-clause-some : goal.returns-in-Some-clause-some
returns-in-Some-clause-some c = search rules
