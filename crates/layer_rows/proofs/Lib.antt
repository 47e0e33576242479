mod CausesTell
mod EdgesInFront
mod VerticesInGaps
mod WaitingGoesOn
mod WorkGoesOn
