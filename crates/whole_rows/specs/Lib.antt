-- What the contracts cite.
pub mod Over
pub mod FitLaws
pub mod Narrows
pub mod NarrowFit
pub mod Numerators
pub mod Rows
pub mod RatioLaws
pub mod RowLaws
pub mod Shrinking
pub mod Plans
pub mod Listed
pub mod Common
pub mod Bits
pub mod ColumnMarks
