-- What contracts cite, and its laws.
pub mod Terms
pub mod Kept
pub mod TermLaws
