-- Each event keeps that the core agrees: EventLaws, from Names, Begins, Ends, Events and Calls.
-- What becomes of an answer: Answering, from Readings and Supply. What the core knows: Knowledge, from Facts.
-- How many names are marked: Bounds. What is saved: Saves. Parents and evidence: ParentLaws, from ParentsResident and Evidence.
-- Cells: CellLaws, from Cache and Drafts for nodes, Pages for blocks, Pins.
pub mod Names
pub mod Begins
pub mod Ends
pub mod Events
pub mod Calls
pub mod EventLaws
pub mod Readings
pub mod Facts
pub mod Knowledge
pub mod Saves
pub mod Cache
pub mod Supply
pub mod Answering
pub mod Desks
pub mod Drafts
pub mod ParentsResident
pub mod DeskLists
pub mod Evidence
pub mod Bounds
pub mod Pins
pub mod Pages
pub mod CellLaws
pub mod ParentLaws
mod ExampleCounter
mod ExamplesOfEvents
mod ExamplesOfAgreeing
mod ExamplesOfSaves
mod ExamplesOfCells
mod ExamplesOfParents
