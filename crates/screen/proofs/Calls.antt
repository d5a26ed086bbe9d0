-- The laws of `Calls`.
pub mod Demands
