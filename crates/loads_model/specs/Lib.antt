-- The modules of these definitions.
pub mod Model
pub mod Sound
pub mod Laws
