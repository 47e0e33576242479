pub mod Owed
pub mod Openings
pub mod FilledNodes
