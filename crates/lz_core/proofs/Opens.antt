pub mod OpenedWorld
pub mod RefusedOpen
pub mod SuitedDisk
