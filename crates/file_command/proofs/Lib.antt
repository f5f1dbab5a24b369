pub mod Ended
pub mod Loaded
pub mod Listed
