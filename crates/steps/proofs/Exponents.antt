-- The laws of `Exponents`.
pub mod Laws
