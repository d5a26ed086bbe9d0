-- The laws of `Promises`.
pub mod Laws
