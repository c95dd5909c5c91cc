pub mod Again
mod Answered
