pub mod Alone
pub mod Solved
pub mod SolvedLaws
pub mod Telling
pub mod TellingLaws
