pub mod Deleted
pub mod AddedAgain
