use Rattle.iris_file_rules.proofs.OneBlock.{one}
use Rattle.iris_file_rules.proofs.versions_stand_for_one_block.Goals as goal

pub returns : goal.returns
returns c = λ keys. one keys
