pub mod OutSeen
pub mod SameNodes
pub mod Apart
pub mod Unpins
pub mod ByName
pub mod Results
pub mod Happenings
pub mod PutEnds
pub mod Ended
pub mod Begun
pub mod Brought
pub mod Entering
pub mod AskedFirst
pub mod Bringing
mod ExamplesOfPools
pub mod EndsOver
pub mod Places
pub mod Doing
pub mod Empty
pub mod Keeping
pub mod FiledNames
pub mod PinnedNames
pub mod LandedDrafts
pub mod LandedCells
pub mod Lookups
pub mod StayingPool
pub mod UsedNames
pub mod Leaving
pub mod LeavingPages
pub mod AdmittedNode
mod ExamplesOfLanding
mod ExamplesOfCounts
pub mod SummedMarks
pub mod ListedNames
pub mod CountedMarks
