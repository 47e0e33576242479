pub mod Fronts
pub mod Owes
pub mod OwnEvents
pub mod Plays
pub mod Rule
pub mod Views
pub mod Stretches
pub mod Retired
