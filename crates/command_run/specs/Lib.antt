pub mod Run
pub mod RanLaws
