mod Sames
mod Loops
mod Separated
