pub mod Links
pub mod NodeLinks
pub mod Alike
