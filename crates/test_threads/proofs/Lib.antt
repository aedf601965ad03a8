pub mod TwoSlots
pub mod ToldRows
pub mod ToldTexts
