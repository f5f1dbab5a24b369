pub mod Sayable
pub mod Values
pub mod Written
