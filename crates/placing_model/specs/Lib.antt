-- The crate's definitions.
pub mod Parts
pub mod Memory
pub mod Own
pub mod Claims
pub mod Reached
