-- The laws of `Layers`.
pub mod Laws
