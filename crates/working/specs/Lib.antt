pub mod Working
pub mod Slices
pub mod Cases
pub mod Lent
