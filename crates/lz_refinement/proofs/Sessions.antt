pub mod PlainRows
pub mod ServedCalls
pub mod AloneMarks
pub mod SoleNotes
pub mod SessionEnd
pub mod SessionMoments
