-- The laws of `Chances`.
pub mod Laws
