-- The laws of `CorrelatedBinomial`.
pub mod Exponents
pub mod Rows
pub mod Theorems
