pub mod Changes
pub mod Positions
pub mod Walks
