pub mod ExactBytes
pub mod HeldSets
pub mod HeadBytes
