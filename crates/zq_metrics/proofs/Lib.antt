pub mod Crossing
mod Names
