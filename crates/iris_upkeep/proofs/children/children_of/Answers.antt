use Rattle.iris_upkeep.proofs.ChildrenOf.{entry-has, part-has}
use Rattle.iris_upkeep.proofs.children.children_of.Goals as goal

pub returns-in-Entry : goal.returns-in-Entry
returns-in-Entry c = λ n. let e = c.children_of_entry.ensures in entry-has c.args.node.now c.in-Entry.entry c.children_of_entry.result n c.in-Entry.is (e.left n) (e.right n) (e.top n)

pub returns-in-Part : goal.returns-in-Part
returns-in-Part c = λ n. let e = c.children_of_part.ensures in part-has c.args.node.now c.in-Part.part c.children_of_part.result n c.in-Part.is (e.left n) (e.right n) e.top
