pub mod Limits
pub mod Scripts
pub mod Tellings
pub mod Scripting
pub mod Rehearsals
pub mod Rehearsing
pub mod Histories
