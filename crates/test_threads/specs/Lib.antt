pub mod NineFound
pub mod Plays
pub mod Tapes
