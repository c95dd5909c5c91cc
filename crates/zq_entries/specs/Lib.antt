pub mod Together
pub mod Entry
pub mod Kind
pub mod Spelling
pub mod Parts
pub mod Reading
pub mod Answer
