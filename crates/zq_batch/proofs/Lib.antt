pub mod Varints
pub mod Latest
pub mod Risen
pub mod OpsAgain
pub mod Batches
pub mod Looked
