pub mod PlaceTables
pub mod SortedKeys
pub mod Surveys
pub mod Readings
pub mod Lives
pub mod Texts
pub mod KeysOutside
pub mod OneSet
