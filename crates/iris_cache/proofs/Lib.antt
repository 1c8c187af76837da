-- A cache keeps what it does where nodes are hung (Hangs), come and go (Guests), change (FlaggedNodes) and get places
-- (EmptyPlaces), over HeldChanges and Counts; its index of links (LinkCounts) says who holds a hash of a name (HashHolders), its
-- set of names who can go (IdleNodes), and its count how many are dirty (DirtyNodes). ExamplesOfHolders has small cases. The laws
-- are in EmptyDraft, Lacking, Keeping, Settling and Applying, over the others. A node with true hashes is the one that its table
-- shows, by TrueNodes over Children; what is seen stands under its own name, by OwnNames.
pub mod Counts
pub mod HeldChanges
pub mod Hangs
pub mod Guests
pub mod FlaggedNodes
pub mod EmptyPlaces
pub mod LinkCounts
pub mod IdleNodes
pub mod DirtyNodes
pub mod HashHolders
pub mod ExamplesOfHolders
pub mod Writes
pub mod Drafts
pub mod Rising
pub mod Landing
pub mod Ways
pub mod Children
pub mod TrueNodes
pub mod OwnNames
pub mod Sparing
pub mod Applying
pub mod Lacking
pub mod EmptyDraft
pub mod Keeping
pub mod Settling
pub mod EachHeld
pub mod SettledChildren
