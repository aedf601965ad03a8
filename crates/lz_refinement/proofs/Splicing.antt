pub mod LoadInsertion
pub mod LoadSplice
