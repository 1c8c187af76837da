pub mod Resolving
pub mod Pictured
pub mod Making
pub mod Listing
pub mod Following
pub mod Entering
pub mod Moving
