-- What certificates say, and what follows of a model that has one.
pub mod Points
pub mod Feasible
pub mod Duals
pub mod Good
pub mod PointLaws
pub mod DualPointLaws
pub mod GoodLaws
