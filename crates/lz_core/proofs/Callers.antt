pub mod ShownCallers
pub mod NextEvent
pub mod Turn
pub mod TurnOfWorld
pub mod LoadedEvent
pub mod Invoke
pub mod TrippedTurn
