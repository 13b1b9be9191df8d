-- The crate's proofs.
pub mod Words
pub mod Links
pub mod Totals
pub mod Walks
pub mod Turns
pub mod Laws
