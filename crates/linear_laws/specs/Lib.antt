pub mod UnitLaws
pub mod SupportLaws
pub mod SlopeLaws
pub mod EvaluationLaws
pub mod ListLaws
pub mod PointLaws
