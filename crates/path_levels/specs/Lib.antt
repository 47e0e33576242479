pub mod Queue
pub mod Search
