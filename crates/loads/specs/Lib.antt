-- The modules of these definitions.
pub mod Entry
