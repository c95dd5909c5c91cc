pub mod Varint
pub mod Before
pub mod Spelling
pub mod Fields
pub mod Batch
pub mod Reading
pub mod ViewOf
pub mod Answer
