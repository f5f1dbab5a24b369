-- What the contracts cite: the end of a trail, the form that a text writes, what is printed, and how
-- a run ends.
pub mod Small
pub mod Sizes
pub mod Forms
pub mod Reading
pub mod Printing
pub mod Answering
pub mod Input
pub mod Status
pub mod Run
