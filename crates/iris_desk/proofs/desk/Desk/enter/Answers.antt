use Rattle.std.proofs.Common.{rules}
use Rattle.iris_desk.proofs.desk.Desk.enter.Goals as goal

pub returns-clause-entered : goal.returns-clause-entered
returns-clause-entered c = search rules
