pub mod Growing
pub mod Printing
pub mod Words
pub mod Cuts
pub mod Paths
pub mod Script
