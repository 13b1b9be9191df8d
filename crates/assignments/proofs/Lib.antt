-- The lemmas.
pub mod Walk
pub mod Places
pub mod Counts
pub mod Bounds
