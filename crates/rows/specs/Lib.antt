pub mod Turns
pub mod Store
pub mod Filling
