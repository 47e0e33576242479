pub mod ChangesTell
pub mod PositionsGoOn
pub mod UnlinksTell
pub mod WalksTell
