pub mod OneBlock
pub mod SoundTables
pub mod FileRecords
pub mod Fresh
pub mod Drafts
mod ExamplesOfTables
mod ExamplesOfDrafts
mod ExampleShown
mod ExamplesOfTrails
mod ExamplesOfRanges
mod ExamplesOfUpkeep
mod ExamplesOfNeighbours
mod ExamplesOfReplies
