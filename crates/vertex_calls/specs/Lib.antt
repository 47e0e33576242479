pub mod Causes
pub mod Ready
