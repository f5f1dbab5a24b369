-- What the file of maps says.
pub mod Lines
pub mod Shaped
pub mod Progress
