pub mod TriesGoOn
