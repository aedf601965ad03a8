pub mod KeySearch
pub mod ChainSearch
