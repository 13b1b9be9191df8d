-- The crate's definitions.
pub mod Interfaces
pub mod Machine
pub mod Relation
pub mod Lifting
pub mod Keeping
pub mod Acts
pub mod Claims
