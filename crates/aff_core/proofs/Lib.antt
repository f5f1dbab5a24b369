mod Changed
mod Padding
mod Rising
mod Steps
mod Summing
mod Values
