pub mod Limits
pub mod Views
pub mod Rule
pub mod Steps
pub mod Words
pub mod Follows
