pub mod ShortTexts
pub mod ShortModel
mod WrittenText
mod EachItem
