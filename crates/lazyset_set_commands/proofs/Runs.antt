pub mod FoundSets
pub mod PlainRows
pub mod SessionCalls
pub mod ToldReplies
pub mod ToldSessions
pub mod HandedPass
pub mod LeftSets
pub mod LookedCalls
