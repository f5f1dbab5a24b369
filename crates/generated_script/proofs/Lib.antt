pub mod Draws
pub mod Jumps
pub mod Costs
pub mod Moving
