mod Names
mod Splits
