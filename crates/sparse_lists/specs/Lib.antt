-- What contracts cite, and its laws.
pub mod Across
pub mod AcrossLaws
pub mod JoinedLaws
pub mod GrowthLaws
