pub mod Made
pub mod Lines
pub mod Kept
pub mod Filtered
