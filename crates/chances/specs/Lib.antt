pub mod Chances
pub mod Tails
