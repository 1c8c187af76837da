-- OutLists: look-ups in one desk's list, after each call, and what a list of outs keeps.
-- OneDesk: where a list has what is out for a name, and what one desk keeps is kept by each call.
-- Seats: a list of desks of which one changes.
-- OutOf: what is out for a name is out at one desk, and the look-ups of all desks.
-- Keeping: what all desks keep is kept by each call.
-- DoomedCounts: how many doomed names are of some kind, after each call.
-- LookingUp: the laws.
-- Examples: desks worked out by hand.
pub mod OutLists
pub mod OneDesk
pub mod Seats
pub mod OutOf
pub mod Keeping
pub mod DoomedCounts
pub mod LookingUp
pub mod Examples
