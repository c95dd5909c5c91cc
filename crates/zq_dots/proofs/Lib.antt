pub mod Counters
pub mod Sound
