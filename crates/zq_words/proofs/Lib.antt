pub mod Positions
pub mod PairLists
pub mod Limits
pub mod CommandLimits
pub mod OptionsMeant
pub mod Passing
pub mod ZaddWords
pub mod Digits
