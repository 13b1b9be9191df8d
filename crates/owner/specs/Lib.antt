-- The crate's definitions.
pub mod Runs
pub mod Halls
