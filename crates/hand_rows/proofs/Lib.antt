pub mod WorkGoesOn
