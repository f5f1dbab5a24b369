mod NameTexts
mod NumberLaws
