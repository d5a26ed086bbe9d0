pub mod Answers
pub mod Calls
pub mod Demands
