pub mod SlotReads
pub mod MemberNodes
pub mod LinkedMembers
pub mod MemberOrder
pub mod TakenSlots
pub mod FilledTables
pub mod FirstYard
