use Rattle.iris_file_rules.proofs.FileRecords.{hash_true}
use Rattle.iris_file_rules.proofs.true_hashes_are_expected.Goals as goal

pub returns : goal.returns
returns c = hash_true
