pub mod Ages
pub mod Parents
pub mod Sameness
pub mod Texts
pub mod TextsStay
