use Rattle.iris_plan_laws.proofs.FileById.{files_refiled}
use Rattle.iris_plan_laws.proofs.laws.files_are_refiled.Goals as goal

pub returns : goal.returns
returns c = files_refiled
