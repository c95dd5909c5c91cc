pub mod Transfer
pub mod Received
pub mod Laws
