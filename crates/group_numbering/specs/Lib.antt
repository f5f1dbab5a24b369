pub mod NewGroups
pub mod NumberLaws
pub mod PlaceLaws
pub mod HoldLaws
