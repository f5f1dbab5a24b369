pub mod DecimalLaws
pub mod DigitLaws
pub mod Fractions
pub mod NumberLaws
pub mod Parts
pub mod Steps
pub mod TextLaws
