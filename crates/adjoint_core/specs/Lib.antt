-- What `carry_back` answers.
pub mod Told
pub mod Prefix
pub mod Read
pub mod Walk
pub mod CanCarry
pub mod CarriedBack
