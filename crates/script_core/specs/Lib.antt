-- What the contracts cite.
pub mod Reading
pub mod Names
pub mod Terms
pub mod Sums
pub mod Sets
pub mod Variables
pub mod Rows
pub mod Changes
pub mod Tables
pub mod Solver
pub mod Keyword
pub mod Line
