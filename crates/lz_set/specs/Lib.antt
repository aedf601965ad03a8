pub mod Names
pub mod Blanks
pub mod Answers
pub mod Left
pub mod Stages
pub mod Counts
pub mod Scans
pub mod JoinedLives
