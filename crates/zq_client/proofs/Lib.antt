mod FirstOptions
mod Knowing
pub mod Strangers
