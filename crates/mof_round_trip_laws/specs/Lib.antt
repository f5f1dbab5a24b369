pub mod Renumbered
pub mod Functions
pub mod Accepted
pub mod Groups
pub mod Bounds
pub mod Rows
pub mod Objectives
pub mod RoundTrip
