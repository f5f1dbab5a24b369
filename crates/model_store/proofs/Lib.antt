pub mod RoomLaws
pub mod Addresses
