pub mod OpenedYard
pub mod OpenedMoments
pub mod FirstSets
pub mod OpenedLives
