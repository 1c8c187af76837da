use Rattle.iris_rows.proofs.ViewOfStep.{step_same, verdict_same}
use Rattle.iris_rows.proofs.law.views_agree.Goals as goal

pub returns : goal.returns
returns c = λ t r d g. (step_same t r d g, verdict_same t r g)
