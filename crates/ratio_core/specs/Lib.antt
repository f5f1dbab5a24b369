-- What the contracts of this crate cite.
pub mod Answers
pub mod AnsweredLaws
pub mod Folds
pub mod Gcd
pub mod Narrow
pub mod Rational
pub mod RationalLaws
pub mod Text
pub mod TextLaws
