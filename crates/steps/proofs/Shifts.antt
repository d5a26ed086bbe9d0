-- The laws of `Shifts`.
pub mod Laws
