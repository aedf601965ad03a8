pub mod Limits
pub mod Lines
pub mod Pieces
pub mod Reading
pub mod Sessions
pub mod Steps
