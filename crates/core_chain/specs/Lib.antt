pub mod Chain
pub mod Met
pub mod Walk
pub mod Steps
pub mod Table
pub mod Worked
