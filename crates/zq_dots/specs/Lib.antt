pub mod Act
pub mod Rule
pub mod Placed
pub mod OpView
