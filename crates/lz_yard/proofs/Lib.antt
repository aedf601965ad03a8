pub mod Opening
pub mod Events
pub mod BegunCall
