pub mod Causes
pub mod ReadyStays
