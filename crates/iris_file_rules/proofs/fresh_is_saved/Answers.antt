use Rattle.iris_file_rules.proofs.Fresh.{fresh_saved}
use Rattle.iris_file_rules.proofs.fresh_is_saved.Goals as goal

pub returns : goal.returns
returns c = fresh_saved
