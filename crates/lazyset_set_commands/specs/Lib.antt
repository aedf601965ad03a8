pub mod Founds
pub mod Looks
pub mod PlainReplies
pub mod Marks
pub mod Runs
pub mod Services
