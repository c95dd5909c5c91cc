pub mod Alike
pub mod Rounds
pub mod Again
