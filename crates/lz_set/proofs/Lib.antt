pub mod CountRows
pub mod JoinedLifeRows
pub mod JoinedLives
mod LeftRows
pub mod Members
pub mod Opening
pub mod Plays
pub mod ScanRows
pub mod Scans
pub mod StageRows
pub mod TiedRows
pub mod Welcome
pub mod WelcomeRows
