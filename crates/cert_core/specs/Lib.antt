-- What the check of a certificate answers.
pub mod Answers
pub mod Variables
pub mod Points
pub mod Components
pub mod Readings
pub mod Holding
pub mod Folds
pub mod Adding
pub mod Checked
pub mod CountedLaws
