-- files_are_refiled: FileById, over MappedShown
-- makes_are_rows: NewRow, over DirectoryById; rows_go_and_come: RowTakenAndPut, over RowByName
-- rows_are_left: RowsLeft, MovedRow
-- blocks_change: BlocksOfRows, BlocksOfSteps
-- writes_change_pages, resizes_change_pages, rows_keep_pages: PagesOfSteps, over BlocksOfSteps, BlocksOfRows and Pictured
-- pages_change_each: ChangedPages
-- between_is_sound: CutBetween
-- makes_go_through: MadeRow; moves_go_through: MovedRow; writes_go_through, resizes_go_through: ChangedFile; all over AcceptedRequests and Pictured
-- reads_are_replies: RepliesOfPlans
-- fetched_nodes_fit: FetchedNodes
pub mod MappedShown
pub mod FileById
pub mod DirectoryById
pub mod RowByName
pub mod NewRow
pub mod RowTakenAndPut
pub mod RowsLeft
pub mod AcceptedRequests
pub mod Pictured
pub mod CutBetween
pub mod MadeRow
pub mod MovedRow
pub mod ChangedFile
pub mod BlocksOfRows
pub mod BlocksOfSteps
pub mod PagesOfSteps
pub mod ChangedPages
pub mod RepliesOfPlans
pub mod FetchedNodes
pub mod Examples
