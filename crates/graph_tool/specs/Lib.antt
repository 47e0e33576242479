pub mod Input
pub mod Status
pub mod Command
pub mod OnCallers
pub mod Run
pub mod Streams
