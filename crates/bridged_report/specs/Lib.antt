pub mod Addresses
pub mod Places
pub mod Functions
pub mod Sets
pub mod Lines
pub mod Indexed
