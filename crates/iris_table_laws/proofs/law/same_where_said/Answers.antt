use Rattle.iris_table_laws.proofs.SameTables.{same_said}
use Rattle.iris_table_laws.proofs.law.same_where_said.Goals as goal

pub returns : goal.returns
returns c = same_said
