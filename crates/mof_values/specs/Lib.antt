pub mod Walked
pub mod Values
pub mod Sets
pub mod WalkLaws
