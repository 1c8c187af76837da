pub mod Children
pub mod Marks
pub mod SettlesInto
