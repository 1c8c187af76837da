use Rattle.iris_plan_laws.proofs.NewRow.{made_rows}
use Rattle.iris_plan_laws.proofs.laws.makes_are_rows.Goals as goal

pub returns : goal.returns
returns c = made_rows
