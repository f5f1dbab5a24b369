pub mod Naming
pub mod Pushes
pub mod InOrder
pub mod Reading
