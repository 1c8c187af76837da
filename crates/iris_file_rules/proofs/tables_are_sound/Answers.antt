use Rattle.iris_file_rules.proofs.SoundTables.{tables_sound, well_formed}
use Rattle.iris_file_rules.proofs.tables_are_sound.Goals as goal

pub returns-clause-sound : goal.returns-clause-sound
returns-clause-sound c = tables_sound

pub returns-clause-formed : goal.returns-clause-formed
returns-clause-formed c = well_formed
