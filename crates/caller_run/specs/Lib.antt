pub mod Asked
pub mod Lanes
