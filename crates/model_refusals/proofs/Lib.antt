-- Lemmas that proofs cite.
pub mod SeenNames
pub mod Firsts
pub mod FirstRefusals
pub mod MarkLemmas
pub mod NamedTerms
pub mod ChangedTerms
pub mod Totals
pub mod Counting
pub mod ZeroTests
pub mod EditCounts
