pub mod EachSite
pub mod Beyond
pub mod Filling
pub mod Learnt
pub mod Nearest
pub mod Asked
pub mod Fenced
