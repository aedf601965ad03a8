pub mod FirstWords
pub mod FirstState
