pub mod CountsRead
pub mod Crossing
