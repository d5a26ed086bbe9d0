-- The laws of `Enclosure`.
pub mod Laws
