pub mod Differences
pub mod Calls
