-- The laws of `Calls`.
pub mod Laws
