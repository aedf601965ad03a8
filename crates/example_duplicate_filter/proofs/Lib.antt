pub mod Added
pub mod FilterRows
