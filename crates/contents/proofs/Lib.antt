-- The crate's proofs.
pub mod NoGood
