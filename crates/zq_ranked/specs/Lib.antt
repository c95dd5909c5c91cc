pub mod Order
pub mod Edits
pub mod Shape
pub mod Falls
pub mod Key
pub mod Paths
