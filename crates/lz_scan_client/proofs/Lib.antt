pub mod OneEach
pub mod Reached
pub mod ScanningRows
pub mod Unread
pub mod Shaped
