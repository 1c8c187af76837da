use Rattle.iris_plan_laws.proofs.PagesOfSteps as pages
use Rattle.iris_plan_laws.proofs.laws.rows_keep_pages.Goals as goal

pub returns : goal.returns
returns c = pages.rows_keep_pages
