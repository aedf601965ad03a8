pub mod Steps
pub mod Parts
pub mod Filling
pub mod Plays
pub mod Begun
pub mod Walking
