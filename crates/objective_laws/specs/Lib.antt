pub mod ObjectivePlace
pub mod DownLaws
pub mod PlaceLaws
