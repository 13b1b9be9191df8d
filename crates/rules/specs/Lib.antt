-- What the contracts cite.
pub mod Shelves
