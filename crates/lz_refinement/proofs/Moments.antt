pub mod GrownNotes
pub mod LeftBeginnings
pub mod StayingReplies
pub mod HeldMoments
pub mod OwnReplies
