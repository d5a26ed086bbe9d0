pub mod Rounding
pub mod Whole
pub mod Accuracy
pub mod Binary64
