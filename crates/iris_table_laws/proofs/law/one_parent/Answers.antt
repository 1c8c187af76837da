use Rattle.iris_table_laws.proofs.TreeOfTable.{is_tree}
use Rattle.iris_table_laws.proofs.NodeParents as rooting
use Rattle.iris_table_laws.proofs.law.one_parent.Goals as goal

pub returns-clause-tree : goal.returns-clause-tree
returns-clause-tree c = is_tree

pub returns-clause-others : goal.returns-clause-others
returns-clause-others c = rooting.nodes_have_parents

pub returns-clause-roots : goal.returns-clause-roots
returns-clause-roots c = rooting.roots_have_none
