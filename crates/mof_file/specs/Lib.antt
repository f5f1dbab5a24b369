pub mod Functions
pub mod File
