-- The definitions that contracts and laws cite.
pub mod BoundedSums
pub mod Search
pub mod Form
pub mod Basis
pub mod Board
pub mod Readings
pub mod Turns
pub mod Fit
pub mod Standing
pub mod Trail
pub mod TrailOutcome
