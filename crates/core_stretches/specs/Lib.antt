pub mod Makes
pub mod Moments
pub mod Holdings
pub mod LoadedWords
