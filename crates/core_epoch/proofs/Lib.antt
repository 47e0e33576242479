pub mod Births
pub mod Beside
pub mod Lists
pub mod FreeList
pub mod WorkedRun
pub mod WorkedPools
