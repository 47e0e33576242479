pub mod Run
pub mod Clock
pub mod Steps
pub mod Ends
pub mod Free
pub mod Worked
pub mod WorkedPool
