-- What the contracts cite.
pub mod StdForm
pub mod Answer
pub mod Phases
pub mod Placed
pub mod Steps
