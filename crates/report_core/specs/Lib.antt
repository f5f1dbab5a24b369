pub mod Words
pub mod Refused
pub mod Replies
pub mod Plan
