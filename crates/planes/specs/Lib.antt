pub mod Planes
pub mod Sides
pub mod Cases
