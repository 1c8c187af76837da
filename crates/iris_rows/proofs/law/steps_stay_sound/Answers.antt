use Rattle.iris_rows.proofs.SoundStep.{sound_kept, sound_empty}
use Rattle.iris_rows.proofs.RowCount.{few_rows}
use Rattle.iris_rows.proofs.law.steps_stay_sound.Goals as goal

pub returns-clause-begins : goal.returns-clause-begins
returns-clause-begins c = sound_empty

pub returns-clause-stays : goal.returns-clause-stays
returns-clause-stays c = sound_kept

pub returns-clause-few : goal.returns-clause-few
returns-clause-few c = few_rows
