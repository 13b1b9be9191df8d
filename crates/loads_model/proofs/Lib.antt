-- The modules of these proofs.
pub mod Tournament
pub mod Climb
pub mod Laws
pub mod Steps
