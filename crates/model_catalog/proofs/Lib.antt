-- Lemmas.
pub mod TableNames
pub mod InTurn
pub mod NameLoops
pub mod Weights
pub mod Counts
pub mod Listings
pub mod RowLoop
pub mod Found
pub mod Models
pub mod Exchanges
pub mod ExchangeSteps
pub mod Empty
