pub mod Rows
pub mod Text
pub mod Gives
pub mod Pieces
pub mod Faults
pub mod RowText
pub mod Generator
pub mod Summary
