pub mod Answers
pub mod Askings
pub mod Commands
pub mod Lives
pub mod Marks
pub mod Sessions
pub mod Wants
