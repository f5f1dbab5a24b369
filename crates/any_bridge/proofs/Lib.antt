mod Lawful
mod Made
