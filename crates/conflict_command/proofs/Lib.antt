pub mod Printed
pub mod Attached
pub mod Told
pub mod Room
