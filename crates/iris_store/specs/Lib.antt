pub mod Traffic
pub mod Tally
pub mod Honest
pub mod Script
