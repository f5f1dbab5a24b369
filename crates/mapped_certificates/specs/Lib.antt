-- What certificates say of models with rows in sets that are seen through maps.
pub mod SeenRow
pub mod Seen
pub mod GoodSeen
pub mod ShowsSeen
pub mod TakenBack
pub mod StandLaws
pub mod TakenBackLaws
pub mod ShowsSeenLaws
pub mod UnmappedLaws
pub mod Law
