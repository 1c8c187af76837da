-- The front of a record is its block.
pub mod Fronts
-- Records that are alike, and the bytes of a block's.
pub mod Alike
-- Worked examples of the definitions.
mod Examples
