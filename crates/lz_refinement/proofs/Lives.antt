pub mod HeldLives
pub mod HaltedVault
pub mod ToldFailures
