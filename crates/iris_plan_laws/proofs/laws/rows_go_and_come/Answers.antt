use Rattle.iris_plan_laws.proofs.RowTakenAndPut as rows
use Rattle.iris_plan_laws.proofs.laws.rows_go_and_come.Goals as goal

pub returns-clause-take : goal.returns-clause-take
returns-clause-take c = rows.takes_are_rows

pub returns-clause-puts : goal.returns-clause-puts
returns-clause-puts c = rows.puts_are_rows
