pub mod Merged
pub mod AboveLaws
pub mod TreeLaws
pub mod ModelLaws
pub mod TextLaws
