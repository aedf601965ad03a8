pub mod Runs
pub mod Callers
pub mod Members
pub mod Opens
mod TripRows
