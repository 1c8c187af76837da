-- That counts are written anew entry by entry rests on Counted. Examples has small cases of the definitions.
pub mod Counted
pub mod Examples
