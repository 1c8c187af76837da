-- What stands where its parts stand: CarriedOver. What leads to which name: LinkedNames. What is out, as the invariant sees it: SeenTransfers.
-- links_lead: LinkedNames
-- asks_go_on: AskedRequests; gets_go_on: BegunGets; withdrawals_go_on: GivenUp; names_leave: LeavingNames
-- puts_go_on, discards_go_on, fruitless_gets_go_on: NotedTransfers; the refusals after them: RefusedTransfers
-- puts_begin, discards_begin: BegunChores, over CachedNodes
-- gets_are_kept: BroughtNodes and BroughtPages, both over RightAnswers
-- planned_calls_go_on: PlannedCalls, over BlocksOfCalls, DraftsMade, SettledCells and SettledRoots, and that over RootsAbove
-- idle_calls_go_on, unmarked_syncs: IdleCalls
pub mod CarriedOver
pub mod LinkedNames
pub mod CachedNodes
pub mod SeenTransfers
pub mod AskedRequests
pub mod BegunGets
pub mod GivenUp
pub mod LeavingNames
pub mod NotedTransfers
pub mod RefusedTransfers
pub mod BegunChores
pub mod RightAnswers
pub mod BroughtNodes
pub mod BroughtPages
pub mod RootsAbove
pub mod SettledRoots
pub mod SettledCells
pub mod DraftsMade
pub mod BlocksOfCalls
pub mod PlannedCalls
pub mod IdleCalls
mod ExamplesOfLinks
mod ExamplesOfExpectations
mod ExamplesOfTransfers
mod ExamplesOfCalls
