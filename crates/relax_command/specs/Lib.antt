pub mod Text
pub mod Says
pub mod SaysLaws
