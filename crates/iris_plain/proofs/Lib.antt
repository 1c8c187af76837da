pub mod RouteLaws
pub mod EntryLaws
pub mod PageLaws
pub mod ByteLaws
pub mod StepLaws
