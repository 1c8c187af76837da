pub mod Standing
pub mod Links
pub mod Quiet
pub mod Transfers
pub mod ChoresBegin
pub mod GetsKept
pub mod Calls
