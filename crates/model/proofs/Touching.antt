-- The laws of `Touching`.
pub mod Laws
