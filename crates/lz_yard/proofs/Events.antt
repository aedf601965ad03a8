pub mod HandRange
pub mod VaultCalls
pub mod PlayedLine
pub mod KeptFit
pub mod RunTransition
pub mod PassPlaces
