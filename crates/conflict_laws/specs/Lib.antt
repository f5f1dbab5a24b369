pub mod Contents
pub mod Rotated
