-- The theorem on Bland's rule and what it takes: plain sequences, the basic columns, the identity of
-- prices, a step, what stands between two equal sets, and the bound by counting.
pub mod Cycles
pub mod Sequences
pub mod Counting
pub mod BasicColumns
pub mod Exchange
pub mod Steps
pub mod Degenerate
pub mod Fickle
pub mod PhaseSteps
pub mod NeverRepeats
pub mod Bounded
