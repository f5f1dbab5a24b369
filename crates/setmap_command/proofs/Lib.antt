pub mod Told
pub mod Fetched
