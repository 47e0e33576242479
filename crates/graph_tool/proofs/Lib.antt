pub mod Along
pub mod Shares
pub mod Shown
pub mod Lines
pub mod Inputs
pub mod Runs
pub mod Known
