pub mod Steps
pub mod Frames
pub mod Ledger
pub mod Crash
pub mod Open
pub mod Alone
pub mod Runs
pub mod Theorem
