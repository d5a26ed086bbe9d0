-- The laws of `BetaBinomial`.
pub mod Cases
pub mod Laws
pub mod Theorems
