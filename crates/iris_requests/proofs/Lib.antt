-- the requests that change nothing: Replies, Answered, over ShownTables
-- what a plan lacks is needed: NeededNames, over ShownTables
-- reads: BytesRead, over FileAtPath and NeededNames
-- new files and directories: NewRows; moves: MovedRows; both over RowsPlanned and NeededNames
-- writes: BytesWritten; new lengths: LengthsChanged; both over FileAtPath and NeededNames
-- a request of any kind: Dispatched
pub mod ShownTables
pub mod Replies
pub mod Answered
pub mod NeededNames
pub mod FileAtPath
pub mod BytesRead
pub mod RowsPlanned
pub mod NewRows
pub mod MovedRows
pub mod BytesWritten
pub mod LengthsChanged
pub mod Dispatched
pub mod ExamplesOfReplies
pub mod ExamplesOfNeeds
