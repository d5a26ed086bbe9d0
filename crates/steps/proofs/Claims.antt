-- The laws of `Claims`.
pub mod Laws
