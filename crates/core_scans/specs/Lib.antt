pub mod Seen
pub mod Held
pub mod Walking
pub mod Differing
pub mod Worked
