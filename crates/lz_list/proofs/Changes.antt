pub mod CheckedPlace
pub mod ChainMove
pub mod NodeLink
pub mod NodeUnlink
pub mod WordStore
