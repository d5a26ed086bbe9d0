-- The laws of `Inputs`.
pub mod Laws
