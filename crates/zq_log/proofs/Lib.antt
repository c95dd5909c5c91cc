pub mod Limits
pub mod Quotes
