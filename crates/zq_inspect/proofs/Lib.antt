pub mod Used
pub mod Keyed
pub mod Recalling
pub mod Seeing
pub mod Sorted
