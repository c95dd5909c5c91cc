mod Alarms
mod Chunks
mod ChunkSteps
mod Cuts
mod Escaping
mod Floors
mod Images
mod ReadAgain
pub mod Moments
mod Outcomes
mod Replays
mod Runs
mod Tears
mod Walks
