use Rattle.iris_plan_laws.proofs.ChangedPages as pages
use Rattle.iris_plan_laws.proofs.laws.pages_change_each.Goals as goal

pub returns : goal.returns
returns c = pages.pages_change_each
