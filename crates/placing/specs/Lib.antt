-- The crate's definitions.
pub mod Acts
pub mod Turns
pub mod Entry
