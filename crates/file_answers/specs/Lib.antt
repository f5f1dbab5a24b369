pub mod AskingLaws
pub mod FileAnswers
