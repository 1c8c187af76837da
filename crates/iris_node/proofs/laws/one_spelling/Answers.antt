use Rattle.iris_node.proofs.Records.{same_spelling}
use Rattle.iris_node.proofs.laws.one_spelling.Goals as goal

pub returns : goal.returns
returns c = same_spelling
