pub mod LineWord
pub mod TextLine
pub mod MarkLine
pub mod LineRows
