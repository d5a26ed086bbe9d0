-- The laws of `Rows`.
pub mod Laws
