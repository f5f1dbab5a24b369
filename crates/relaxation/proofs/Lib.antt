pub mod RowLemmas
pub mod RowsMade
pub mod MadeLemmas
pub mod KeptLemmas
pub mod NameLemmas
pub mod LoopLemmas
pub mod TermLemmas
