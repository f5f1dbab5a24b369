pub mod Tokens
pub mod Pieces
pub mod PieceLaws
pub mod Number
pub mod DigitLaws
pub mod Family
pub mod Table
pub mod Each
