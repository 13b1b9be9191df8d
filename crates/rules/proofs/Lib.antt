-- The lemmas.
pub mod Lists
