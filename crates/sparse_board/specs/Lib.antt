-- What the contracts cite.
pub mod Sparse
pub mod Numbers
pub mod Mixed
pub mod Lowering
pub mod Rows
pub mod Words
pub mod Marks
pub mod Marking
pub mod Changes
pub mod Testing
pub mod Pivoting
pub mod Leaving
pub mod Kept
pub mod Starting
