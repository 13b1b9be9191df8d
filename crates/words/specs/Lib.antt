-- The crate's definitions.
pub mod Small
pub mod Slots
pub mod Parts
