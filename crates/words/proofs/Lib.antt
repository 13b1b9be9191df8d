-- The crate's proofs.
pub mod Laws
pub mod Cuts
pub mod Cases
pub mod Slots
