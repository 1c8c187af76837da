-- Each past gives a sound table, and what a sound table shows is well formed.
use Rattle.iris_forest.proofs.NodesAreFormed.{stands_tree, formed, apart}
use Rattle.iris_file_rules.specs.Rules.{files_after}
use Rattle.iris_file_rules.specs.TableLaws.{TablesAreSound, TablesAreWellFormed}
use Rattle.iris_file_rules.proofs.OneBlock.{sound}

pub tables_sound : TablesAreSound
tables_sound keys past = sound keys past

pub well_formed : TablesAreWellFormed
well_formed keys past = record {
  tree = stands_tree keys.order (files_after keys past) (sound keys past);
  formed = formed keys.order (files_after keys past) (sound keys past);
  apart = apart keys.order (files_after keys past) (sound keys past);
}
