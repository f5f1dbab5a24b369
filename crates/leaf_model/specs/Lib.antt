pub mod LeafModel
pub mod ReadThrough
