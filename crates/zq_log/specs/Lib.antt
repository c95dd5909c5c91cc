pub mod Stamp
pub mod Pairs
pub mod Lines
pub mod Limits
pub mod LimitLaws
pub mod Kinds
pub mod Backlogs
pub mod Intakes
