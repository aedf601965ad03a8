pub mod Told
pub mod Scanning
pub mod Scans
pub mod Shapes
