use Rattle.iris_upkeep.proofs.ChildrenOf.{linked}
use Rattle.iris_upkeep.proofs.children.linked_entry.Goals as goal

pub returns-in-Some : goal.returns-in-Some
returns-in-Some c = λ n. linked c.args.link c.in-Some.link n c.in-Some.is
