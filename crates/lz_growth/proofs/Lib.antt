pub mod CountBytes
pub mod NextCounts
pub mod GrownTexts
pub mod FirmMedia
pub mod OneByte
pub mod RaisedTexts
mod RaiseRows
mod NextRows
pub mod FrontMedia
pub mod FrontCalls
pub mod FrontSets
pub mod HeadTexts
pub mod HeadLooks
mod HeadRows
mod FrontRows
