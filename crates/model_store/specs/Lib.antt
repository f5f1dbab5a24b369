-- What other crates cite.
pub mod Store
pub mod Rooms
pub mod Parking
pub mod StoreLaws
pub mod Reading
