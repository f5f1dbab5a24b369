pub mod Fetched
pub mod FetchedLaws
