pub mod Filled
pub mod Opening
pub mod Table
pub mod Tokens
