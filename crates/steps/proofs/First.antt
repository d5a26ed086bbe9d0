-- The laws of `First`.
pub mod Laws
