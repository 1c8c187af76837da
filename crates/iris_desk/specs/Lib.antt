pub mod Outs
pub mod AtDesk
pub mod AtDesks
pub mod Laws
