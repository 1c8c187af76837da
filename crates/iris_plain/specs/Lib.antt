pub mod Routes
pub mod Checks
pub mod Files
pub mod Pages
pub mod Steps
pub mod Entries
