pub mod SlotFinding
pub mod MetSlots
pub mod SoundFile
pub mod PieceReads
