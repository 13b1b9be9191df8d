-- What the contracts cite.
pub mod Spots
pub mod Spread
pub mod Carried
