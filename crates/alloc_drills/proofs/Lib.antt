pub mod OpenedWords
