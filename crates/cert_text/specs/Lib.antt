-- What a certificate's text is, and what a text is read as.
pub mod Left
pub mod Text
pub mod Reading
pub mod ReadsBack
