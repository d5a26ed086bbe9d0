-- The laws of `Loss`.
pub mod Laws
