pub mod Texts
pub mod Deciding
pub mod Pieces
pub mod Records
pub mod Feeding
pub mod Same
pub mod Lengths
pub mod Walking
