-- What the contracts cite.
pub mod Accepted
pub mod Bounds
pub mod Changes
pub mod Hash
pub mod Marked
