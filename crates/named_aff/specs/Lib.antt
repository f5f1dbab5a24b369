pub mod Distinct
pub mod Sums
pub mod Entries
