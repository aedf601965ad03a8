pub mod PlayedStep
pub mod Endings
pub mod JoinedPlays
