pub mod Verdicts
pub mod Collects
