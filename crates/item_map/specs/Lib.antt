pub mod ItemAddresses
pub mod Forks
pub mod Gaps
pub mod ItemLists
pub mod ItemMap
pub mod ItemsLeft
pub mod CountLaws
