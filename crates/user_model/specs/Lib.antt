-- What the contracts cite.
pub mod Sets
pub mod Functions
pub mod Model
pub mod Limits
pub mod Deletion
pub mod Edited
pub mod Refusals
pub mod Undone
pub mod Consistent
pub mod UndoLaws
pub mod Valid
pub mod Accepted
pub mod SameUpToNumbers
pub mod PositionLaws
