pub mod Commands
pub mod Timing
pub mod Durations
pub mod Counts
pub mod Closings
pub mod Metrics
pub mod Lines
pub mod Page
