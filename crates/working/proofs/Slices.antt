-- The laws of `Slices`.
pub mod Laws
