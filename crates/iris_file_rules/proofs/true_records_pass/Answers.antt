use Rattle.iris_file_rules.specs.Rules.{file_rules}
use Rattle.iris_file_rules.proofs.FileRecords.{spells}
use Rattle.iris_file_rules.proofs.true_records_pass.Goals as goal

pub returns : goal.returns
returns c = λ keys. spells keys (file_rules keys)
