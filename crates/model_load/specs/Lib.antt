pub mod Loads
pub mod LoadsLaws
