pub mod Norms
pub mod Least
pub mod Multiples
pub mod Units
pub mod Cones
pub mod Mirrors
pub mod Lone
