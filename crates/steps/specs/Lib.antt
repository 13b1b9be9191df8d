-- The crate's definitions.
pub mod Format
