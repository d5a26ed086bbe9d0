-- The laws of `Column`.
pub mod Laws
