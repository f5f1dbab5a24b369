pub mod ScriptNumbers
pub mod Generator
pub mod Jump
pub mod Parts
pub mod Script
