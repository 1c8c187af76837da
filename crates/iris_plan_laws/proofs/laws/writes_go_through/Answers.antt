use Rattle.iris_plan_laws.proofs.ChangedFile as changed
use Rattle.iris_plan_laws.proofs.laws.writes_go_through.Goals as goal

pub returns : goal.returns
returns c = changed.writes_go_through
