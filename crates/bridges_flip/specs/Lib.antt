pub mod FlipLaws
pub mod GreaterLessLaws
pub mod OrthantFlipLaws
pub mod NonposVarLaws
pub mod ObjFlipLaws
