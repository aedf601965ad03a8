pub mod Image
pub mod ImageSlots
pub mod Tail
pub mod TailRows
pub mod Leftovers
pub mod Down
