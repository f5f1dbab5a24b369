pub mod Conflict
pub mod Walk
pub mod Optima
pub mod Steps
