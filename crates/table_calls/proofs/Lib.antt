pub mod ClosedWords
pub mod Filling
pub mod Known
pub mod Linking
pub mod ListWords
pub mod Loaded
