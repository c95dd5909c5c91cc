pub mod Step
pub mod Opening
pub mod Refused
pub mod Effect
pub mod Behind
pub mod Replayed
pub mod Laws
