pub mod Refusal
pub mod Configured
pub mod Asked
pub mod Told
pub mod Levels
pub mod Inspected
