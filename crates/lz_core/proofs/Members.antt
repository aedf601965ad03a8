pub mod AscendingKeys
pub mod ShownKeys
