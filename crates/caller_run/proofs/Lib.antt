pub mod Driving
pub mod Merging
