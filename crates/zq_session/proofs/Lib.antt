pub mod Talks
pub mod Conversations
pub mod GatheredBytes
pub mod KnownBytes
pub mod AnsweredPart
pub mod Turns
pub mod Alongside
pub mod Connections
pub mod Hearings
pub mod Seen
pub mod Runs
pub mod Served
pub mod Written
pub mod Streams
pub mod Refused
pub mod PlainBooks
pub mod MadeAndLent
mod OfSets
pub mod InHistory
pub mod FurtherAnswers
pub mod FurtherHistory
mod Woven
mod Together
