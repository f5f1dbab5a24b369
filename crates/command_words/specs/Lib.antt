pub mod Texts
pub mod Options
pub mod Files
pub mod Generate
pub mod Words
