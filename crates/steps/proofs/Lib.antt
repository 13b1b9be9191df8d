-- The crate's proofs.
mod Back
