pub mod Again
pub mod Found
pub mod Halves
pub mod PartsAgain
pub mod Counters
pub mod Entries
pub mod Written
