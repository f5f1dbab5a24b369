pub mod Words
pub mod Text
pub mod Says
pub mod SaysLaws
pub mod Files
