pub mod Causes
pub mod Steady
