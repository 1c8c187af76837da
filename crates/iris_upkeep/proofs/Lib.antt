-- the children of a node: ChildrenOf
-- the lowest marked node: WaysDown
-- settling from the leaves up: SettlingUp, SettledHash, Stepped, WaysDown
pub mod ChildrenOf
pub mod WaysDown
pub mod Stepped
pub mod SettlingUp
pub mod SettledHash
mod Examples
