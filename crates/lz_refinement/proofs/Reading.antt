pub mod TraceNotes
pub mod CallPlaces
pub mod PinWords
pub mod TurnedTrace
pub mod StandingCall
pub mod OwnTraces
pub mod OnePass
