pub mod Status
pub mod RunState
pub mod Answering
pub mod Input
pub mod Commands
pub mod Generated
pub mod Run
