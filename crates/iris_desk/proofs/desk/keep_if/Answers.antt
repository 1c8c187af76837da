use Rattle.std.proofs.Common.{rules}
use Rattle.iris_desk.proofs.desk.keep_if.Goals as goal

pub returns-in-Ok-clause-names : goal.returns-in-Ok-clause-names
returns-in-Ok-clause-names c = search rules
