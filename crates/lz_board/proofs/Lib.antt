pub mod Start
pub mod Upkeep
pub mod Walk
pub mod NoteRows
pub mod GlanceRows
pub mod ListRows
