pub mod Begun
pub mod Bytes
pub mod FirstItems
pub mod LineReads
pub mod Rows
pub mod Serving
pub mod Texts
