pub mod Limits
pub mod Lines
pub mod LinesLaws
pub mod Reading
pub mod ReadingLaws
