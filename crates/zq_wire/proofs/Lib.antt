pub mod Framed
pub mod Steps
pub mod Asking
pub mod Streams
pub mod Once
pub mod StreamRuns
pub mod Topics
pub mod Parcels
pub mod Places
pub mod OutboxRuns
mod Differing
pub mod Long
mod Follows
mod Stays
mod Parts
mod Numbers
mod Exactly
mod Changed
mod Known
mod Answering
mod Paid
