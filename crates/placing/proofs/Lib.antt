-- The crate's proofs.
mod Steps
