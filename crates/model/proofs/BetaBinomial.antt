-- The laws of `BetaBinomial`.
pub mod Theorems
pub mod Cases
