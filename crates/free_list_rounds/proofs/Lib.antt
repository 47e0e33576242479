pub mod FirstRound
pub mod GivingTells
pub mod PassesTell
pub mod StagesTell
pub mod WorkGoesOn
