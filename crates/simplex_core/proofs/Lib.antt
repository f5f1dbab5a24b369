pub mod Choices
pub mod Comparisons
pub mod Multipliers
pub mod Placing
pub mod Running
pub mod Right
