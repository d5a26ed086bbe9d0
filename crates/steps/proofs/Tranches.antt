-- The laws of `Tranches`.
pub mod Cases
pub mod Laws
