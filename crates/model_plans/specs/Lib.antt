-- What other crates cite.
pub mod Plans
pub mod Undos
