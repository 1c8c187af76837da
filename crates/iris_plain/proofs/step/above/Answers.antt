use Rattle.iris_plain.proofs.StepLaws.{front_names}
use Rattle.iris_plain.proofs.step.above.Goals as goal

pub returns-else-is_empty : goal.returns-else-is_empty
returns-else-is_empty c = front_names c.args.names.now
