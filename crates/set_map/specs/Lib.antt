-- What the contracts cite: matrices, combinations of functions, sets seen through a map, and the laws
-- that tie them.
pub mod Matrices
pub mod MatrixLaws
pub mod Combinations
pub mod CombinationLaws
pub mod Fitting
pub mod Kept
pub mod MappedSet
pub mod MappedSetLaws
pub mod Answers
