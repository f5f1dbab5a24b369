pub mod Numeral
pub mod Rewritten
pub mod Tenths
pub mod Decimal
