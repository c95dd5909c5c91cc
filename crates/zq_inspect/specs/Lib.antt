pub mod Bytes
pub mod Recalled
pub mod Keys
pub mod Lines
pub mod Members
pub mod Words
pub mod Found
pub mod Report
