-- The laws of `Counts`.
pub mod Laws
