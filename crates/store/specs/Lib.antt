pub mod Stores
pub mod Lent
pub mod Calls
pub mod Filling
