pub mod ByName
pub mod DualEdits
pub mod Rows
pub mod Fitting
pub mod Told
pub mod Answers
