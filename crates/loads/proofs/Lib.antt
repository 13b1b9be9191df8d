-- The modules of these proofs.
mod Row
