use Rattle.iris_file_rules.specs.Rules.{file_rules}
use Rattle.iris_file_rules.proofs.FileRecords.{texts}
use Rattle.iris_file_rules.proofs.tables_have_texts.Goals as goal

pub returns : goal.returns
returns c = λ keys. texts keys (file_rules keys)
