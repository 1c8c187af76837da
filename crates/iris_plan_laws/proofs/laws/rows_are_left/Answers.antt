use Rattle.iris_plan_laws.proofs.MovedRow.{hands_are_held}
use Rattle.iris_plan_laws.proofs.RowsLeft.{names_lead_on, no_name_comes}
use Rattle.iris_plan_laws.proofs.laws.rows_are_left.Goals as goal

pub returns-clause-held : goal.returns-clause-held
returns-clause-held c = hands_are_held

pub returns-clause-leads : goal.returns-clause-leads
returns-clause-leads c = names_lead_on

pub returns-clause-names : goal.returns-clause-names
returns-clause-names c = no_name_comes
