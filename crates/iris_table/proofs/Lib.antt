-- Table::step: ServedStep, over the changes of a list in preorder: RowTakenOut, DirectoryRows, RunAtDepth, ItemsInTurn, ListRotation,
--   ForestChange, ChangeAtPath, RunsAmongItems, ForestDepths
-- seen, resolve, page: MetRow, StopAmongItems, PageOfNames
pub mod ForestChange
pub mod StopAmongItems
pub mod ServedStep
pub mod ChangeAtPath
pub mod RunsAmongItems
pub mod ForestDepths
pub mod MetRow
pub mod PageOfNames
pub mod ListRotation
pub mod ItemsInTurn
pub mod DirectoryRows
pub mod RunAtDepth
pub mod RowTakenOut
