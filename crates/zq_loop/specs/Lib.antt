pub mod Attending
pub mod Socket
pub mod Client
pub mod Turns
pub mod Life
pub mod Ending
pub mod Standing
