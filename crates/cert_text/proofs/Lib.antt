pub mod Bytes
pub mod Cuts
pub mod EachLine
pub mod Entries
pub mod Printed
pub mod ReadBack
