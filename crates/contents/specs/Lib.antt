-- The crate's definitions.
pub mod Columns
pub mod View
