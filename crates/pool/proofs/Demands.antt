-- The laws of `Demands`.
pub mod Theorems
pub mod Cases
