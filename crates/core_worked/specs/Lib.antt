pub mod Beside
pub mod Counted
pub mod KnownSteps
pub mod Refused
pub mod Replacing
pub mod TwoLives
pub mod LawSteps
pub mod TargetAnew
