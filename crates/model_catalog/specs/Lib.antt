-- What the contracts cite.
pub mod Names
pub mod Index
pub mod Terms
pub mod Named
pub mod Catalog
pub mod Kept
pub mod Exchange
