pub mod Keyed
pub mod Jobs
pub mod Chores
