pub mod Advances
pub mod Limbos
pub mod Passes
