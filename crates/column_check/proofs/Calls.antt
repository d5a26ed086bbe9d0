-- The laws of `Calls`.
pub mod Distance
pub mod Demands
