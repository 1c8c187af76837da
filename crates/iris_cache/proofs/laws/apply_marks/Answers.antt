use Rattle.iris_cache.proofs.Applying.{apply-marks}
use Rattle.iris_cache.proofs.laws.apply_marks.Goals as goal

pub returns : goal.returns
returns c = apply-marks
