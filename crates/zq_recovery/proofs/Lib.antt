pub mod World
pub mod Stepping
pub mod Keeping
pub mod Reading
