pub mod Growths
pub mod Raises
pub mod Nexts
pub mod Heads
pub mod Fronts
pub mod TimelyFronts
