pub mod Rotated
pub mod Shown
pub mod Making
pub mod Trying
pub mod Tried
pub mod Optimized
pub mod Walking
