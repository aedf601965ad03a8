pub mod Cuts
pub mod Numerals
pub mod Spellings
pub mod TextRows
pub mod MarkTexts
