use Rattle.iris_plan_laws.proofs.CutBetween as between
use Rattle.iris_plan_laws.proofs.laws.between_is_sound.Goals as goal

pub returns : goal.returns
returns c = between.between_is_sound
