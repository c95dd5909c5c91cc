pub mod Crossing
mod Desks
mod Filled
mod OwnPass
mod Together
pub mod Tickets
pub mod ThreadLists
