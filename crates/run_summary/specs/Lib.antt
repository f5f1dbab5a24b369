pub mod Calls
pub mod Summary
pub mod SummaryLaws
