pub mod Runs
pub mod Reached
pub mod Standing
pub mod Linked
pub mod Regained
pub mod Examples
