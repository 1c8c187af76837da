pub mod Places
pub mod Found
pub mod Piles
pub mod Turns
pub mod Below
pub mod Descents
pub mod Splits
pub mod Merges
