pub mod Signs
pub mod RelaxedEdits
pub mod Answers
pub mod KeptLaws
