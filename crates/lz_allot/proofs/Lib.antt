pub mod Trees
pub mod SetSlots
pub mod FilledTrees
pub mod LowestSlot
pub mod FilledPlaces
pub mod ToldUses
pub mod SightChanges
pub mod LeftSlots
pub mod UseCounts
pub mod CallEffects
mod OutsideRows
