pub mod Versions
pub mod Needs
pub mod Sides
pub mod Reached
pub mod Ranges
