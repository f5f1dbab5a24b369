pub mod Places
pub mod KeptPlaces
pub mod Noted
pub mod AddressMap
