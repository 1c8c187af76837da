pub mod Served
pub mod Planned
pub mod Needed
pub mod Outcomes
