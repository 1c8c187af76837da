use Rattle.iris_file_rules.proofs.Drafts.{drafts_move}
use Rattle.iris_file_rules.proofs.drafts_move.Goals as goal

pub returns : goal.returns
returns c = drafts_move
