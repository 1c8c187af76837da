-- Where the main theorems are proved, each with the files that it stands on:
-- the row of a name is found (`Searches`): Stands, Pasts
-- a page has the next names (`Listings`): Pages, PassedRows, Stands, Pasts
-- a block of the walk is found by counts (`BlockPlaces`): Blocks, Stands, Pasts
-- an insertion plants the treap with the row, by split and plug (`InsertedRows`): TreapTops, WaysDown, SplitTreaps, PlantedTreaps
-- a removal plants the treap without the row, by merge and plug (`RemovedRows`): TreapTops, WaysDown, MergedTreaps, PlantedTreaps
-- and then the counts above are right (`PlanEnds`)
pub mod Pasts
pub mod Stands
pub mod Searches
pub mod Blocks
pub mod BlockPlaces
pub mod Pages
pub mod PassedRows
pub mod Listings
pub mod TreapTops
pub mod WaysDown
pub mod SplitTreaps
pub mod MergedTreaps
pub mod PlantedTreaps
pub mod InsertedRows
pub mod RemovedRows
pub mod PlanEnds
