mod Asking
pub mod Judged
