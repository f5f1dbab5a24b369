-- Definitions
pub mod Equations
pub mod Columns
pub mod EqualityForm
pub mod ReadBack
pub mod Right
pub mod Native
-- Laws
pub mod CellLaws
pub mod KeyLaws
pub mod SlackLaws
pub mod PointLaws
pub mod ComponentLaws
pub mod RowLaws
pub mod ShapeLaws
pub mod FeasibleLaws
pub mod WeightLaws
pub mod DualLaws
pub mod CostLaws
pub mod RightLaws
