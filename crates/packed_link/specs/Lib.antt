pub mod Layout
pub mod Link
