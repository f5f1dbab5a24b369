pub mod Names
pub mod Groups
pub mod Edits
pub mod NameLaws
pub mod RowLaws
