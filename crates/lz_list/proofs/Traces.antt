pub mod Absence
pub mod NodeBits
pub mod Hindsight
pub mod WalkEnd
pub mod TraceWords
pub mod OpeningTrace
pub mod TraceRows
