-- The crate's proofs.
pub mod Memory
pub mod Laws
pub mod Own
pub mod Reaching
