pub mod Marked
pub mod Read
pub mod KindLaws
pub mod Stood
