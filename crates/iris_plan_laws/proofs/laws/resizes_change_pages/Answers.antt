use Rattle.iris_plan_laws.proofs.PagesOfSteps as pages
use Rattle.iris_plan_laws.proofs.laws.resizes_change_pages.Goals as goal

pub returns : goal.returns
returns c = pages.resizes_change_pages
