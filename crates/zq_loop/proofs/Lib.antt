pub mod AtSocket
pub mod Crossing
pub mod Living
pub mod TurnByTurn
