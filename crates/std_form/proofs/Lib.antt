pub mod Coefficients
pub mod ListSteps
pub mod Pushes
pub mod Steps
pub mod Counts
pub mod ReadTo
pub mod Gathering
