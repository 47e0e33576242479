pub mod EpochSeen
pub mod LimboStays
