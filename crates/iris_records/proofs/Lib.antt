-- records_of, root_of: RecordsOfItems, over RecordsByName (the shelf), FoldsAndShapes, PartRecords, BlockRecords (a file), EntryRecords, TreapRecords, TreapOfRows, LevelRows (a directory)
-- probe: BlockAtPlace, over WalkOverFiles
-- Examples: tables worked out by hand
mod Examples
pub mod RecordsByName
pub mod FoldsAndShapes
pub mod PartRecords
pub mod BlockRecords
pub mod EntryRecords
pub mod TreapRecords
pub mod TreapOfRows
pub mod LevelRows
pub mod RecordsOfItems
pub mod WalkOverFiles
pub mod BlockAtPlace
