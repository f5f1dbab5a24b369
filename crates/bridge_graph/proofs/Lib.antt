pub mod Steps
pub mod Trees
pub mod Settled
pub mod Choices
