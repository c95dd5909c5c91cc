pub mod Asked
pub mod Clerks
pub mod Counts
pub mod Replies
pub mod Tokens
