pub mod KeptQueries
pub mod ScansOfQueries
pub mod QueriesLook
