pub mod EachAlone
pub mod LaterNumbers
pub mod BridgedRows
