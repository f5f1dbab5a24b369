-- What the contracts cite: the rows that a file of maps uses, its first wrong line, its first bad map, the
-- model with the mapped rows, and what that stands for.
pub mod Uses
pub mod Kept
pub mod Mapping
pub mod Tells
pub mod Stands
pub mod Edits
pub mod Taking
pub mod Answers
pub mod TakenLaws
