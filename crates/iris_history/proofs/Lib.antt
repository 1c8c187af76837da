pub mod Pasts
pub mod Names
pub mod Records
pub mod Growth
mod ExampleTable
mod ExamplesOfStatus
mod ExamplesOfLicences
mod ExamplesOfTurns
mod ExamplesOfAnswers
mod ExamplesOfNotes
mod ExamplesOfCalls
mod ExamplesOfBreaks
pub mod Counts
mod ExamplesOfCrowding
mod ExamplesOfWaits
mod ExamplesOfBad
pub mod Steady
pub mod NoteStatus
