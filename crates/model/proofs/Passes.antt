-- The laws of `Passes`.
pub mod Laws
