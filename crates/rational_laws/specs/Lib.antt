-- What other crates cite.
pub mod Dot
pub mod DotLaws
pub mod Field
pub mod Fitting
pub mod Linear
pub mod Order
pub mod Over
pub mod Ring
pub mod Sums
pub mod Tests
pub mod Whole
pub mod ZeroSums
