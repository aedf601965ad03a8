pub mod SightUpkeep
pub mod UseUpkeep
pub mod EventUpkeep
