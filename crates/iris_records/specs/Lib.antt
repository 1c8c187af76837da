pub mod Shown
pub mod Records
pub mod Unmade
pub mod Pieces
pub mod Walks
pub mod Challenges
pub mod Strides
