-- The crate's proofs.
mod Running
mod Telling
