pub mod Escape
pub mod KeptText
pub mod Name
pub mod NameTable
pub mod InStep
