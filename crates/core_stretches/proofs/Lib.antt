pub mod MakesAddUp
pub mod MakesTell
pub mod HoldingsStay
pub mod WordsLeadOn
pub mod VertexWords
pub mod EdgeWords
