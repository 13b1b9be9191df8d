-- The crate's proofs.
pub mod Weighing
pub mod Standing
pub mod Steps
pub mod Commands
pub mod Opening
pub mod Closing
pub mod Refines
pub mod Busy
pub mod Keeping
pub mod Acts
