-- The crate's definitions.
pub mod Lines
