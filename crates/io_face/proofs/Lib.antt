pub mod FoundFiles
