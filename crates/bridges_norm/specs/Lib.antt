pub mod BothLaws
pub mod NormInfinityLaws
pub mod NormOneLaws
