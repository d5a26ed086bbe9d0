-- The laws of `Numbers`.
pub mod Laws
