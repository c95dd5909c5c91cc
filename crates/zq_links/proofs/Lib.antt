pub mod Newest
pub mod Runs
mod Answered
pub mod Again
mod Repeated
mod Taken
mod Same
mod Topics
mod StepsAgain
mod ControlAgain
mod PiecesAgain
pub mod Batches
