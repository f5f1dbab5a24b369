pub mod LoadedAgain
