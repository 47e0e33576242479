pub mod RootsFound
pub mod UsesStay
