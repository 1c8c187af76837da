pub mod Growth
pub mod Cutting
pub mod PathWords
pub mod Asking
pub mod ScriptSoFar
pub mod OneAsked
pub mod ScriptLaws
