pub mod RowsAgain
pub mod EdgesLoaded
pub mod TargetsLoaded
pub mod EdgesRecorded
pub mod ListsWalked
pub mod RowsCollected
