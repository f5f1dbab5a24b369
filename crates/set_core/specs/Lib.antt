pub mod Answers
pub mod Membership
pub mod Mirrored
pub mod SetLaws
pub mod ShapeLaws
pub mod Shapes
pub mod Vectors
