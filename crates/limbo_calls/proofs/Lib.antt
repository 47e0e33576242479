pub mod FirstIsFound
pub mod FirstIsLinked
pub mod ListIsClosed
pub mod StaysSteady
