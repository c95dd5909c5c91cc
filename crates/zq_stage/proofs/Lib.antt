pub mod Newer
pub mod Portions
pub mod Replaced
pub mod RowsOf
pub mod Stages
pub mod Streams
