pub mod Rows
pub mod Staged
pub mod Piece
pub mod StageView
pub mod Stream
pub mod Portion
