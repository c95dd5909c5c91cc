pub mod Made
pub mod Crossing
mod Carried
mod Handings
