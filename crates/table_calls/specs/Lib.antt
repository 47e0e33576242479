pub mod Causes
pub mod Closing
pub mod Edges
pub mod Loads
pub mod Resting
pub mod Vertices
