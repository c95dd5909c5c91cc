pub mod Sums
pub mod Balance
pub mod Seatings
pub mod Lists
pub mod Crossing
