pub mod SessionRows
pub mod Steps
