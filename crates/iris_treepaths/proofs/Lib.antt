-- Where the main theorems are proved, each with the files that it stands on:
-- a path that is set anew rises to the treap with what was plugged in (`RisenPaths`): PathLaws, Crumbs, RowNodes, Owned, Likes
-- a treap planted in a directory makes its table, but for the counts above (`Assembly`): Recounts, Refills, Rowed, Moved, Sizes
-- counts above a child are set right, one by one (`Rights`): CountsSet, CountsUp, Recounts
-- putting a row into a list, or taking it out, is doing so to its treap (`RowsWith`, `RowsWithout`): Downs, Moved
-- the hash that is held of an entry was its hash (`HeldHashes`); a row comes into hand, and is given up (`Handed`)
pub mod There
pub mod Owned
pub mod Sees
pub mod Likes
pub mod Downs
pub mod RowNodes
pub mod PathLaws
pub mod Crumbs
pub mod RisenPaths
pub mod Sizes
pub mod Rowed
pub mod Moved
pub mod Recounts
pub mod CountsSet
pub mod CountsUp
pub mod Rights
pub mod Refills
pub mod Assembly
pub mod RowsWithout
pub mod RowsWith
pub mod HeldHashes
pub mod Handed
