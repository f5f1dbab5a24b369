pub mod Bridges
pub mod Sound
pub mod Nodes
pub mod Turns
pub mod Letting
pub mod LettingLaws
pub mod Adding
