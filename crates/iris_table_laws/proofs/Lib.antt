-- one_parent: TreeOfTable and NodeParents, over NodesInTrees, NamesByNumber, TreapRows, NestedNodes
-- same_where_said: SameTables, over SameNodes
-- nodes_fit: Grammar
-- versions_stand_for_blocks: BlocksByVersion, over LaterFiles
-- texts_stay: TextNames
pub mod NestedNodes
pub mod TreapRows
pub mod NamesByNumber
pub mod NodesInTrees
pub mod TreeOfTable
pub mod SameNodes
pub mod SameTables
pub mod Grammar
pub mod TextNames
pub mod NodeParents
pub mod LaterFiles
pub mod BlocksByVersion
