pub mod NextMark
pub mod CallFloor
pub mod CallTurn
pub mod ReadingTable
pub mod LedgerMark
