pub mod FileTable
pub mod Reach
pub mod Rules
pub mod Laws
pub mod TableLaws
pub mod DraftLaws
