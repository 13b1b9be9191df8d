-- The crate's proofs.
pub mod Keys
pub mod Steps
pub mod Paths
pub mod Changes
pub mod Moves
pub mod Words
pub mod Trees
pub mod Chains
pub mod Finds
pub mod Inserts
pub mod Removes
pub mod Bounds
pub mod Tells
