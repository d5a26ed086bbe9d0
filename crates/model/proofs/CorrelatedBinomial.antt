-- The laws of `CorrelatedBinomial`.
pub mod Rows
pub mod Sheets
pub mod Theorems
